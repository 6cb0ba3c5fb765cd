use Rattle.std.proofs.Common.{◌≡◌, ◌+◌, drop}
use Rattle.inner_interleaver.specs.Words.{brought}
use Rattle.inner_interleaver.proofs.words.word.Given as goal

abbrev pub invariant-loop-place : goal.invariant-loop-place
invariant-loop-place l = l.word + brought l.width (drop l.place l.lane-items) l.place l.bits l.w ≡ brought l.width l.lane-items 0 l.bits l.w
