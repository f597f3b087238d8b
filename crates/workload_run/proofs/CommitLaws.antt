-- Parties that have committed the first of some batches, and commit the next one.
use Rattle.std.proofs.Common.{◌≡◌, ℕ, zero, suc, ◌+◌, ◌<◌, ◌≤◌, List, [], ◌∷◌, ◌++◌, length, take, get_or, append-nil, append_assoc, sym, ap, ◌∙◌, subst, arith}
use Rattle.std.specs.Prelude.{IsOk}
use Rattle.std.proofs.lemmas.List.{length-map, length-take-le, take_more}
use Rattle.vo_spec.specs.declared.tables.Batch.{Batch}
use Rattle.vo_spec.specs.declared.tables.Command.{Command}
use Rattle.vo_spec.specs.Secret.{Secret, secret_leaves}
use Rattle.vo_spec.specs.Tables.{apply_batch, tables_after}
use Rattle.vo_laws.specs.Sealing.{AreAcceptedAfter}
use Rattle.owner_state.specs.Sealing.{commands_of}
use Rattle.owner_state.proofs.SealSteps.{IsNext, next_is}
use Rattle.workload_run.specs.declared.parties.Parties.{Parties}
use Rattle.workload_run.specs.Parties.{StandBehind, batches_behind}
use Rattle.workload_run.proofs.StandLaws.{behind_is}

accepted_at : (earlier cs : List (List Command)) (n : ℕ) (batch : List Command) → IsNext cs n batch
    → AreAcceptedAfter earlier cs
    → IsOk (apply_batch batch (tables_after (earlier ++ take n cs)))
accepted_at earlier [] n batch next all = absurd (omega (arith, next.there))
accepted_at earlier (c ∷ cs) zero batch next all =
    subst (λ (b : List Command). IsOk (apply_batch b (tables_after (earlier ++ [])))) (sym next.is)
    (subst (λ (bs : List (List Command)). IsOk (apply_batch c (tables_after bs)))
    (sym (append-nil earlier)) all.0)
accepted_at earlier (c ∷ cs) (suc n) batch next all =
    subst (λ (bs : List (List Command)). IsOk (apply_batch batch (tables_after bs)))
    (append_assoc earlier (c ∷ []) (take n cs))
    (accepted_at (earlier ++ c ∷ []) cs n batch
    (record { there = omega (arith, next.there); is = next.is }) all.1)

module _ (secret : Secret) (bs : List Batch) (n : ℕ) (batch : Batch) (p : Parties)
    (at : StandBehind secret (take n (commands_of bs)) p) (within : n < length bs)
    (is : batch ≡ get_or bs n batch) where
  abbrev cs : List (List Command)
  cs = commands_of bs

  next : IsNext cs n batch.commands
  next = next_is bs n batch within is

  behind : batches_behind p ≡ take n cs
  behind = behind_is secret (take n cs) p at

  pub next_accepted : AreAcceptedAfter [] cs
      → IsOk (apply_batch batch.commands (tables_after (batches_behind p)))
  next_accepted all =
      subst (λ (done : List (List Command)). IsOk (apply_batch batch.commands (tables_after done)))
      (sym behind) (accepted_at [] cs n batch.commands next all)

  pub next_left : length bs < secret_leaves secret
      → length (batches_behind p) + 1 < secret_leaves p.owner.key
  next_left few =
      let leaves : secret_leaves p.owner.key ≡ secret_leaves secret =
      ap (λ (k : Secret). secret_leaves k) at.key in
      let enough : n ≤ length cs = omega (arith, within, length-map bs (λ (b : Batch). b.commands)) in
      let taken : length (batches_behind p) ≡ n =
      ap (λ (done : List (List Command)). length done) behind ∙ length-take-le n cs enough in
      omega (arith, leaves, taken, within, few)

  pub stands_next : (later : Parties)
      → StandBehind p.owner.key (batches_behind p ++ batch.commands ∷ []) later
      → StandBehind secret (take (n + 1) cs) later
  stands_next later stands =
      subst (λ (done : List (List Command)). StandBehind secret done later)
      (ap (λ (done : List (List Command)). done ++ batch.commands ∷ []) behind
      ∙ ap (λ (b : List Command). take n cs ++ b ∷ []) next.is
      ∙ sym (take_more cs n batch.commands next.there))
      (subst (λ (k : Secret). StandBehind k (batches_behind p ++ batch.commands ∷ []) later) at.key
      stands)
