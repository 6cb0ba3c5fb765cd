use Rattle.outer.specs.Protecting.{sends_codewords, hears_codewords}
use Rattle.outer.proofs.packets_are_codewords.Goals as goal

pub returns : goal.returns
returns c = record { sends = sends_codewords; hears = hears_codewords }
