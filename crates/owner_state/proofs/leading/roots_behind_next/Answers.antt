use Rattle.std.proofs.Common.{◌≡◌, ℕ, true, List, Ok, Err, inl, inr, subst}
use Rattle.vo_spec.specs.declared.tables.Batch.{Batch}
use Rattle.owner_roots.specs.Next.{NextOf}
use Rattle.owner_state.proofs.LeadLaws.{exhausted_leads, refused_leads, unsigned_leads}
use Rattle.owner_state.proofs.OwnerSteps.{Gives, given, refused}
use Rattle.owner_state.proofs.leading.roots_behind_next.Goals as goal

pub returns-else-is_signed_for : goal.returns-else-is_signed_for
returns-else-is_signed_for c =
    let next : NextOf c.args.before.now c.args.entry.now.batch.commands c.proofs.result.now (Ok c.in-Ok.after) =
    given c.args.before.now c.args.entry.now.batch.commands c.proofs.result.now c.next.result c.in-Ok.after c.in-Ok.is
    (subst (λ (batch : Batch). Gives c.args.before.now batch.commands c.proofs.result.now c.next.result) c.batch.ensures c.next.ensures.answer) in
    unsigned_leads c.args.key.now c.args.before.now c.args.entry.now c.in-Ok.after
    (subst (λ (bytes : List ℕ). NextOf c.args.before.now c.args.entry.now.batch.commands bytes (Ok c.in-Ok.after)) c.proofs.ensures next)
    (λ signed. let yes : c.is_signed_for.result ≡ true = c.is_signed_for.ensures.1 signed in let is_not = c.if-is_signed_for.false in absurd (cc))

pub returns-else-is_want_of_memory : goal.returns-else-is_want_of_memory
returns-else-is_want_of_memory c =
    let found = refused c.args.before.now c.args.entry.now.batch.commands c.proofs.result.now c.next.result c.in-Err.fault c.in-Err.is
    (subst (λ (batch : Batch). Gives c.args.before.now batch.commands c.proofs.result.now c.next.result) c.batch.ensures c.next.ensures.answer) in
    elim found [
      | inl memory ↦ let yes : c.is_want_of_memory.result ≡ true = c.is_want_of_memory.ensures.1 memory in let is_not = c.if-is_want_of_memory.false in absurd (cc)
      | inr refusal ↦
          refused_leads c.args.key.now c.args.before.now c.args.entry.now c.in-Err.fault
          (subst (λ (bytes : List ℕ). NextOf c.args.before.now c.args.entry.now.batch.commands bytes (Err c.in-Err.fault)) c.proofs.ensures refusal)
    ]

pub returns-then-before : goal.returns-then-before
returns-then-before c = exhausted_leads c.args.key.now c.args.before.now c.args.entry.now c.if-before.true c.requires.fits
