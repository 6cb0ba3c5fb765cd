use Rattle.std.proofs.Common.{◌≡◌, ◌∙◌, div-one}
use Rattle.reed.specs.Registers.{bytes_of, sixteen}
use Rattle.reed.proofs.parity.Parity.bytes.Goals as goal

pub returns : goal.returns
unfolding bytes_of
returns c =
    let written : c.to_be_bytes.result ≡ sixteen c.self.inside.register = simp div-one c.to_be_bytes.ensures in
    written ∙ c.self.view_is
