use Rattle.std.proofs.Common.{List, length, refl, sym, ap, subst, inl}
use Rattle.outside.specs.DiskModel.{LeftSince}
use Rattle.vo_spec.specs.declared.records.Entry.{Entry}
use Rattle.owner_journal.specs.Entries.{entries_of}
use Rattle.owner_state.specs.Stepping.{AreStepsTo}
use Rattle.vo_world.specs.declared.events.Said.TheVariants as said
use Rattle.vo_world.specs.Viewing.{model_of}
use Rattle.vo_world.specs.WorldModel.{WorldModel}
use Rattle.vo_world.proofs.Models.{same_model}
use Rattle.vo_world.proofs.StepLaws.{crash_keeps}
use Rattle.vo_world.proofs.world.World.reopen.Goals as goal

pub open_image-requires : goal.open_image-requires
open_image-requires c =
    let left = subst (λ (v : WorldModel). LeftSince v.drive v.since c.args.image.items) (sym c.self.view_is) c.requires in
    let safe = c.self.invariant.keeps.left c.args.image.items left in
    (safe.entries, safe.is, (safe.roots, safe.steps))

pub invariant_of-self : goal.invariant_of-self
invariant_of-self c =
    let w = model_of c.self.inside in
    let left = subst (λ (v : WorldModel). LeftSince v.drive v.since c.args.image.items) (sym c.self.view_is) c.requires in
    let opened = c.in_ok-journal.ensures {u = tt} in
    let owner = c.in_ok-owner.ensures {u = tt} in
    let es = entries_of c.in_ok-journal.journal in
    let steps = subst (λ (xs : List Entry). AreStepsTo c.self.inside.key xs c.in_ok-owner.owner.roots) c.entries.ensures owner.roots in
    record {
      keeps = crash_keeps w c.self.invariant.keeps c.args.image.items (said.Reopened (length es)) _
          (inl (left, es, opened.found, c.in_ok-owner.owner.roots, steps, refl, same_model _ _ refl refl refl opened.drive refl refl refl refl));
      own_key = owner.key;
      works = opened.works;
      trust = c.self.invariant.trust;
    }

pub returns-clause-ok : goal.returns-clause-ok
returns-clause-ok c =
    let view = c.self.view_is in
    let opened = c.in_ok-journal.ensures {u = tt} in
    let owner = c.in_ok-owner.ensures {u = tt} in
    let es = entries_of c.in_ok-journal.journal in
    let steps = subst (λ (xs : List Entry). AreStepsTo c.self.inside.key xs c.in_ok-owner.owner.roots) c.entries.ensures owner.roots in (
      c.requires,
      es,
      opened.found,
      c.in_ok-owner.owner.roots,
      subst (λ (v : WorldModel). AreStepsTo v.key es c.in_ok-owner.owner.roots) view steps,
      ap (λ (xs : List Entry). said.Reopened (length xs)) c.entries-count.ensures,
      same_model _ _ (ap (λ (v : WorldModel). v.key) view) refl refl opened.drive refl (ap (λ (v : WorldModel). v.leasts) view)
          (ap (λ (v : WorldModel). v.accepted) view) (ap (λ (v : WorldModel). v.released) view),
    )
