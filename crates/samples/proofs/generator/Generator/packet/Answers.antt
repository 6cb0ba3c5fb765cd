use Rattle.std.proofs.Common.{◌≡◌, ℕ, zero, suc, ◌<◌, List, ◌∷◌, length, get_or, refl, ap, ◌∙◌, arith}
use Rattle.std.proofs.lemmas.List.{append-nil}
use Rattle.std.proofs.lemmas.List.FromFn.{fill_by_all}
use Rattle.samples.specs.Generator.{byte_at, packet_from}
use Rattle.samples.proofs.generator.Generator.packet.Goals as goal

after_sync : (x : ℕ) (bytes : List ℕ) → ((k : ℕ) → k < 187 → get_or bytes k 0 ≡ byte_at x (suc k))
    → (k : ℕ) → k < 188 → get_or (0x47 ∷ bytes) k 0 ≡ byte_at x k
after_sync x bytes h zero l = refl
after_sync x bytes h (suc k) l = h k (omega arith)

pub returns-clause-bytes : goal.returns-clause-bytes
unfolding packet_from
returns-clause-bytes c =
    let x = c.args.self.now.state in
    let bytes = c.fill-self.new.bytes in
    let long : length (0x47 ∷ bytes) ≡ 188 = omega (arith, c.fill-self.auto.bytes) in
    ap (λ l. 0x47 ∷ l) (append-nil bytes) ∙ fill_by_all (byte_at x) (0x47 ∷ bytes) 188 0 long (after_sync x bytes c.fill-self.ensures.bytes)
