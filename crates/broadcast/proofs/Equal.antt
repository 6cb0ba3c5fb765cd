-- Equal broadcasts come from equal settings and packets, and those give equal broadcasts.
use Rattle.std.proofs.Common.{◌≡◌, ℕ, ◌+◌, ◌*◌, ◌/◌, ◌%◌, ◌<◌, ◌≤◌, ◌⊎◌, List, [], ◌∷◌, ◌++◌, length, sym, refl, ap, ◌∙◌, subst, inl, inr, mul-le-mul_left, arith, length-append}
use native.Mathlib.Nat.{div-add-mod}
use lib.ListN.{length-replicate}
use Rattle.std.specs.List.{flat_map, AllByRecursion}
use Rattle.std.proofs.lemmas.Bool.{cases_lt}
use Rattle.std.proofs.ByRecursion.{All-append}
use Rattle.tps.specs.Laws.{BlocksTellSettings}
use Rattle.stage.specs.Model.{Heard, Model}
use Rattle.stage.specs.Rule.{Under, Rule, Back, without_last}
use Rattle.holds.specs.Capped.{most}
use Rattle.settings.specs.declared.Settings.{Settings}
use Rattle.settings.specs.SuperFrame.{super_frame_packets}
use Rattle.tps.specs.Block.{blocks}
use Rattle.broadcast.specs.Calls.{bytes, closing_packets, null_packet}
use Rattle.broadcast.specs.Claims.{settings, packets, cells, Broadcast, broadcast, BroadcastsTellPackets}
use Rattle.stage.proofs.Fronts.{begins_length, begins_both, begins_same, split}
use Rattle.broadcast.proofs.Packets.{Packet, Fit, packets_most, bytes_below, bytes_length, closing_are_packets}
use Rattle.broadcast.proofs.Broadcasts.{Whole, whole}

-- a super-frame's bytes are fewer than where a hold stops
pub claims : (M : Model) (s : Settings) → Fit M s → M.hold 0 < most
claims M s f = omega (arith, f.holds_less, packets_most s)

-- multiples of k that are less than k apart
multiples : (k a b : ℕ) → a % k ≡ 0 → b % k ≡ 0 → a < b + k → a ≤ b
multiples k a b e f h = go (cases_lt (b / k) (a / k))
  where
    go : (b / k < a / k) ⊎ (a / k ≤ b / k) → a ≤ b
    go (inl l) =
        let p : k * (b / k + 1) ≤ k * (a / k) = mul-le-mul_left k (omega arith) in
        omega (arith, div-add-mod a k, div-add-mod b k)
    go (inr l) =
        let p : k * (a / k) ≤ k * (b / k) = mul-le-mul_left k l in
        omega (arith, div-add-mod a k, div-add-mod b k)

-- packets from their bytes
pub packets_same : (ps qs : List (List ℕ)) → AllByRecursion Packet ps → AllByRecursion Packet qs → length ps ≡ length qs → bytes ps ≡ bytes qs → ps ≡ qs
packets_same [] [] a b h e = refl
packets_same [] (q ∷ qs) a b h e = absurd (omega arith)
packets_same (p ∷ ps) [] a b h e = absurd (omega arith)
packets_same (p ∷ ps) (q ∷ qs) a b h e =
    let r = split p q (bytes ps) (bytes qs) (a.0.whole ∙ sym b.0.whole) e in
    let f = packets_same ps qs a.1 b.1 (omega arith) r.1 in
    cc (r.0, f)

-- what the packets and the closing packets come to
pub sent-length : (s : Settings) (ps : List (List ℕ)) → AllByRecursion Packet ps
    → length (bytes ps ++ bytes (closing_packets s)) ≡ 188 * length ps + 188 * super_frame_packets s
sent-length s ps a =
    omega (
      arith,
      length-append (bytes ps) (bytes (closing_packets s)),
      bytes_length (λ p k. k.whole) ps a,
      bytes_length (λ p k. k.whole) (closing_packets s) (closing_are_packets s),
      length-replicate (super_frame_packets s) null_packet,
    )

pub sent_below : (M : Model) (s : Settings) → Fit M s → (ps : List (List ℕ)) → AllByRecursion Packet ps → Under M.taken (bytes ps ++ bytes (closing_packets s))
sent_below M s f ps a =
    subst (λ (k : ℕ). Under k (bytes ps ++ bytes (closing_packets s))) (sym f.takes_bytes)
    (All-append (λ x. x < 256) (bytes ps) (bytes (closing_packets s)) (bytes_below ps a) (bytes_below (closing_packets s) (closing_are_packets s)))

module _ (M : Model) (m : Rule M) (s : Settings) (f : Fit M s) where
  -- what is heard of all that was sent
  heard_all : (ps : List (List ℕ)) → AllByRecursion Packet ps
      → Back M (bytes ps ++ bytes (closing_packets s)) 0 (M.hears (without_last 0 (M.sends (bytes ps ++ bytes (closing_packets s)))))
  heard_all ps a = m.law (bytes ps ++ bytes (closing_packets s)) 0 (sent_below M s f ps a) (omega arith)

  cells_tell : (ps qs : List (List ℕ)) → AllByRecursion Packet ps → AllByRecursion Packet qs → length ps % super_frame_packets s ≡ 0 → length qs % super_frame_packets s ≡ 0
      → M.sends (bytes ps ++ bytes (closing_packets s)) ≡ M.sends (bytes qs ++ bytes (closing_packets s)) → ps ≡ qs
  cells_tell ps qs a b c d e =
      let end : List ℕ = bytes (closing_packets s) in
      let h : Heard = M.hears (without_last 0 (M.sends (bytes ps ++ end))) in
      let x : Back M (bytes ps ++ end) 0 h = heard_all ps a in
      let y : Back M (bytes qs ++ end) 0 h =
      subst (λ (w : List ℕ). Back M (bytes qs ++ end) 0 (M.hears (without_last 0 w))) (sym e) (heard_all qs b)
      in
      let less = f.holds_less in
      let small = claims M s f in
      let x1 = begins_length h.units (bytes ps ++ end) x.begins in
      let y1 = begins_length h.units (bytes qs ++ end) y.begins in
      let x2 = x.within small in
      let y2 = y.within small in
      let xl = sent-length s ps a in
      let yl = sent-length s qs b in
      let near : length ps < length qs + super_frame_packets s = omega arith in
      let near' : length qs < length ps + super_frame_packets s = omega arith in
      let one = multiples (super_frame_packets s) (length ps) (length qs) c d near in
      let two = multiples (super_frame_packets s) (length qs) (length ps) d c near' in
      let n : length ps ≡ length qs = omega arith in
      let pl = bytes_length (λ p k. k.whole) ps a in
      let ql = bytes_length (λ p k. k.whole) qs b in
      let u = begins_both (bytes ps) h.units (bytes ps ++ end) (end, refl) x.begins (omega arith) in
      let v = begins_both (bytes qs) h.units (bytes qs ++ end) (end, refl) y.begins (omega arith) in
      packets_same ps qs a b n (begins_same (bytes ps) (bytes qs) h.units u v (omega arith))

pub broadcasts_tell_packets : BlocksTellSettings → BroadcastsTellPackets
broadcasts_tell_packets blocks_tell r q k l h j same = (tells, gives)
  where
    w : Whole r.over (settings r) (packets r) (cells r)
    w = whole r k h

    v : Whole q.over (settings q) (packets q) (cells q)
    v = whole q l j

    -- equal settings: the pile of the one is that of the other
    alike : settings r ≡ settings q → (w.set ≡ v.set) × (cells q ≡ r.over.sends (bytes (packets q) ++ bytes (closing_packets w.set)))
    alike e =
        let t : w.set ≡ v.set = cc (w.took.one, v.took.one, e) in
        let z = same e in
        let b = sent_below r.over w.set w.took.fit (packets q) v.took.are_packets in (
          t,
          v.gave
              ∙ ap (λ (x : Settings). q.over.sends (bytes (packets q) ++ bytes (closing_packets x))) (sym t)
              ∙ sym (z.same_sends (bytes (packets q) ++ bytes (closing_packets w.set)) b),
        )

    tells : broadcast r ≡ broadcast q → (settings r ≡ settings q) × (packets r ≡ packets q)
    tells e =
        let signals : flat_map blocks (settings r) ≡ flat_map blocks (settings q) = ap (λ (x : Broadcast). x.signalling) e in
        let b : blocks w.set ≡ blocks v.set =
        sym (ap (flat_map blocks) w.took.one) ∙ signals ∙ ap (flat_map blocks) v.took.one
        in
        let t = (blocks_tell w.set v.set w.took.identified v.took.identified).0 b in
        let u : settings r ≡ settings q = w.took.one ∙ ap (λ (x : Settings). x ∷ []) t ∙ sym v.took.one in
        let c = (alike u).1 in
        let frames : length (packets q) % super_frame_packets w.set ≡ 0 =
        ap (λ (x : Settings). length (packets q) % super_frame_packets x) t ∙ v.whole_frames
        in (
          u,
          cells_tell r.over k.rule w.set w.took.fit (packets r) (packets q) w.took.are_packets v.took.are_packets w.whole_frames frames
              (sym w.gave ∙ ap (λ (x : Broadcast). x.cells) e ∙ c),
        )

    gives : (settings r ≡ settings q) × (packets r ≡ packets q) → broadcast r ≡ broadcast q
    gives e =
        let c : cells r ≡ cells q =
        w.gave ∙ ap (λ (x : List (List ℕ)). r.over.sends (bytes x ++ bytes (closing_packets w.set))) e.1 ∙ sym (alike e.0).1
        in
        let d : flat_map blocks (settings r) ≡ flat_map blocks (settings q) = ap (flat_map blocks) e.0 in
        λ i. record { cells = c i; signalling = d i }
