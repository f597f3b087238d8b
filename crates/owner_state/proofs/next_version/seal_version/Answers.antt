use Rattle.std.proofs.Common.{◌≡◌, ℕ, ◌+◌, ◌++◌, List, Ok, sym, ap, ◌∙◌}
use Rattle.vo_spec.specs.declared.tables.Command.{Command}
use Rattle.vo_spec.specs.declared.records.Entry.{Entry}
use Rattle.vo_spec.specs.Journals.{slot}
use Rattle.vo_spec.specs.Replies.{proofs_bytes}
use Rattle.vo_spec.specs.Honest.{Stored, honest_proofs, work_all}
use Rattle.vo_spec.specs.Secret.{secret_leaves}
use Rattle.stored_tables.specs.Working.{work_from}
use Rattle.owner_roots.specs.Owners.{honest_roots}
use Rattle.owner_state.specs.Held.{Held}
use Rattle.owner_state.specs.Stepping.{signed_entry}
use Rattle.owner_state.proofs.OwnerSteps.{left_over}
use Rattle.owner_state.proofs.SealSteps.{entry_behind}
use Rattle.owner_state.proofs.WorkTurns.{work_done}
use Rattle.owner_state.proofs.next_version.seal_version.Goals as goal

pub returns : goal.returns
returns c =
    let batch : List Command = c.args.batch.now.commands in
    let stored : List Stored = c.args.sealed.now.tables in
    let before : Held = c.args.sealed.now.owner in
    let after : List Stored = c.in-Ok.after in
    let version : ℕ = before.roots.version + 1 in
    let honest : List ℕ = proofs_bytes (honest_proofs batch stored) in
    let done : work_all batch stored ≡ Ok after =
    work_done batch stored after
    (ap (work_from 0 batch) (sym c.replace-tables.ensures.value) ∙ ap (λ (xs : List Command). work_from 0 xs c.replace-tables.result) (sym c.as_slice.ensures) ∙ c.in-Ok.ensures.answer) in
    let proofs : c.apply_with_proofs.new.proofs.items ≡ honest =
    c.in-Ok.ensures.proofs
    ∙ ap (λ (bytes : List ℕ). bytes ++ proofs_bytes (honest_proofs c.as_slice.result.now c.replace-tables.result)) c.new-proofs.ensures.items
    ∙ ap (λ (xs : List Command). proofs_bytes (honest_proofs xs c.replace-tables.result)) c.as_slice.ensures
    ∙ ap (λ (ss : List Stored). proofs_bytes (honest_proofs batch ss)) c.replace-tables.ensures.value in
    let entry : c.in_ok-entry.entry ≡ signed_entry before.key (honest_roots version after) batch c.apply_with_proofs.new.proofs.items = rw c.prepare.ensures at c.in_ok-entry.ensures.entry in (
      left_over c.is_spent.result (secret_leaves before.key) before.roots.version c.is_spent.ensures.spent.1 c.if-is_spent.false,
      done,
      c.in_ok-put_slot.ensures.ok
          ∙ ap (λ (e : Entry). c.args.sealed.now.slots.items ++ slot e)
          (entry ∙ ap (signed_entry before.key (honest_roots version after) batch) proofs ∙ entry_behind before.key version stored after batch done),
      record { key = c.in_ok-entry.ensures.key ∙ ap (λ (h : Held). h.key) c.prepare.ensures; roots = rw c.prepare.ensures at c.in_ok-entry.ensures.roots },
    )
