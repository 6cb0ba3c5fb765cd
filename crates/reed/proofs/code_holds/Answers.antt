use Rattle.reed.proofs.Roots.{vanishing}
use Rattle.reed.proofs.Sizes.{length-remainder, bytes_remainder}
use Rattle.reed.proofs.Unique.{unique}
use Rattle.reed.specs.Code.{remainder}
use Rattle.reed.proofs.code_holds.Goals as goal

pub returns : goal.returns
returns c message =
    record {
      sixteen = length-remainder message;
      bytes = bytes_remainder message;
      vanishes = vanishing message;
      only = λ others l b z. unique message others (remainder message) l (length-remainder message) b (bytes_remainder message) z (vanishing message);
    }
