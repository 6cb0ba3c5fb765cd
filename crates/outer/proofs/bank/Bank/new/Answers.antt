use Rattle.std.proofs.Common.{◌≡◌, ℕ, ◌≤◌, List, [], length, map, replicate, sym, ap, ◌∙◌, lit<, arith, rules}
use Rattle.std.proofs.lemmas.List.{ext_get_or, get_or-map, length-map}
use Rattle.outer.specs.Branches.{new_branches}
use Rattle.outer.proofs.Making.{holds_at}
use Rattle.outer.proofs.bank.Bank.new.Goals as goal

pub map-requires : goal.map-requires
map-requires c =
    (lit< tt, (lit< tt, (lit< tt, record { at = λ xs t q x u y f e. holds_at (λ (d : ℕ). d ≤ 187) c.args.depths c.requires xs t u x y e })))

pub returns : goal.returns
unfolding new_branches
returns c =
    let zeros : ℕ → List ℕ = λ d. replicate d 0 in
    let ds : List ℕ = c.args.depths in
    let made = c.map.ensures.items in
    let twelve : length ds ≡ 12 = search rules in
    ap (λ qs. record { turn = 0; queues = qs })
    (ext_get_or [] c.map.result (map zeros ds) (made.long ∙ sym twelve ∙ sym (length-map ds zeros))
    (λ i l. (made.at i 0 [] (omega (arith, made.long))).2.met ∙ sym (get_or-map zeros ds i 0 [] (omega (arith, made.long)))))
