use Rattle.inner_coder.proofs.Publishing.{sends_published}
use Rattle.inner_coder.proofs.inner_code_as_published.Goals as goal

pub returns : goal.returns
returns c = sends_published
