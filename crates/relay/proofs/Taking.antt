-- What a call takes of the cells that wait in a line, and what taking all of them comes to.
use Rattle.std.proofs.Common.{◌≡◌, ℕ, ◌+◌, ◌-◌, ◌^◌, ◌<◌, ◌≢◌, min, List, drop, length, refl, ap, sym, ◌∙◌, arith, length-drop}
use Rattle.std.proofs.lemmas.List.{nil_from_length, drop-drop}
use Rattle.stage.specs.Model.{Model}
use Rattle.broadcast.specs.Calls.{refused, counted}
use Rattle.broadcast.specs.Line.{cells}
use Rattle.broadcast.specs.LineSteps.{Line, idle, opened, closing, step}
use Rattle.line.specs.View.{outcome}
use Rattle.relay.specs.Waiting.{cells_in, emptied, Emptied, Without}

-- n cells of the line l, which is l' then
pub record Taken (l l' : Line) (room n : ℕ) : Type 0 where
  pub count_is : n ≡ min (length (cells_in l)) room
  pub rest_is : cells_in l' ≡ drop n (cells_in l)
  pub line_is : emptied l' ≡ emptied l

-- cells were counted so far, and the line was l0
pub record Draining (l0 l : Line) (count : ℕ) : Type 0 where
  pub gone : (n : ℕ) × Without n l0 l
  pub count_is : min (count + length (cells_in l)) (2 ^ 64 - 1) ≡ min (length (cells_in l0)) (2 ^ 64 - 1)
  pub fits : count < 2 ^ 64

counts : {n k : ℕ} → counted n ≡ counted k → n ≡ k
counts e = cc

pub taken : (M : Model) (l l' : Line) (buffer b : List ℕ) (n : ℕ) → outcome (counted n) b l' ≡ step M l (cells buffer) → Taken l l' (length buffer) n
taken M idle l' buffer b n e =
    let answer : counted n ≡ refused 30 = ap (λ o. o.answer) e in
    let z : ◌≡◌ {A = ℕ} 0 1 = cc in absurd (omega arith)
taken M (opened s k side) l' buffer b n e =
    let count : n ≡ min (length side.waits) (length buffer) = counts (ap (λ o. o.answer) e) in
    let line : l' ≡ opened s k (record { waits = drop (min (length side.waits) (length buffer)) side.waits; future = side.future }) = ap (λ o. o.state) e in
    record { count_is = count; rest_is = ap cells_in line ∙ ap (λ m. drop m side.waits) (sym count); line_is = ap emptied line }
taken M (closing s waits) l' buffer b n e =
    let count : n ≡ min (length waits) (length buffer) = counts (ap (λ o. o.answer) e) in
    let line : l' ≡ closing s (drop (min (length waits) (length buffer)) waits) = ap (λ o. o.state) e in
    record { count_is = count; rest_is = ap cells_in line ∙ ap (λ m. drop m waits) (sym count); line_is = ap emptied line }

left-of : (l l' : Line) (room n : ℕ) → Taken l l' room n → length (cells_in l') + n ≡ length (cells_in l)
left-of l l' room n t =
    let shorter : length (cells_in l') ≡ length (cells_in l) - n = ap length t.rest_is ∙ length-drop n (cells_in l) in
    omega (arith, shorter, t.count_is)

pub fewer : (l l' : Line) (room n : ℕ) → Taken l l' room n → n ≢ 0 → length (cells_in l') < length (cells_in l)
fewer l l' room n t ne = omega (arith, left-of l l' room n t, ne)

none-left : (l : Line) → length (cells_in l) ≡ 0 → l ≡ emptied l
none-left idle e = refl
none-left (opened s k side) e = ap (λ ws. opened s k (record { waits = ws; future = side.future })) (nil_from_length side.waits e)
none-left (closing s waits) e = ap (closing s) (nil_from_length waits e)

pub begun : (l : Line) → Draining l l 0
begun l = record { gone = (0, record { rest_is = refl; line_is = refl }); count_is = omega arith; fits = omega arith }

-- more of the line's first cells are gone
pub further : (l0 l l' : Line) (room count n : ℕ) → Draining l0 l count → Taken l l' room n → (m : ℕ) × Without m l0 l'
further l0 l l' room count n d t = (
  d.gone.0 + n,
  record {
    rest_is = t.rest_is ∙ ap (drop n) d.gone.1.rest_is ∙ drop-drop n d.gone.0 (cells_in l0);
    line_is = t.line_is ∙ d.gone.1.line_is;
  },
)

pub onward : (l0 l l' : Line) (room count n : ℕ) → Draining l0 l count → Taken l l' room n → Draining l0 l' (min (count + n) (2 ^ 64 - 1))
onward l0 l l' room count n d t = record {
  gone = further l0 l l' room count n d t;
  count_is = omega (arith, d.count_is, left-of l l' room n t);
  fits = omega arith;
}

pub all-taken : (l0 l l' : Line) (room count n : ℕ) → 0 < room → Draining l0 l count → Taken l l' room n → n ≡ 0 → Emptied l0 l' count
all-taken l0 l l' room count n some d t none =
    let gone : length (cells_in l') ≡ 0 = omega (arith, left-of l l' room n t, t.count_is, none, some) in
    record {
      line_is = none-left l' gone ∙ t.line_is ∙ d.gone.1.line_is;
      count_is = omega (arith, d.count_is, d.fits, left-of l l' room n t, none, gone);
    }

-- a line that refuses to give cells is not started, and never was
pub untaken : (M : Model) (l0 l l' : Line) (buffer b : List ℕ) (count n : ℕ) → Draining l0 l count → outcome (refused n) b l' ≡ step M l (cells buffer)
    → (l0 ≡ idle) × (l' ≡ l0)
untaken M l0 idle l' buffer b count n d e =
    let first : l0 ≡ idle = idle-of l0 (sym d.gone.1.line_is) in
    (first, ap (λ o. o.state) e ∙ sym first)
  where
    idle-of : (l : Line) → emptied l ≡ idle → l ≡ idle
    idle-of idle e = refl
    idle-of (opened s k side) e = cc
    idle-of (closing s waits) e = cc
untaken M l0 (opened s k side) l' buffer b count n d e =
    let answer : refused n ≡ counted (min (length side.waits) (length buffer)) = ap (λ o. o.answer) e in cc
untaken M l0 (closing s waits) l' buffer b count n d e =
    let answer : refused n ≡ counted (min (length waits) (length buffer)) = ap (λ o. o.answer) e in cc
