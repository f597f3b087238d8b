use Rattle.std.proofs.Common.{◌≡◌, ℕ, List, [], ◌∷◌, ◌++◌, Some, drop, sym, ap, subst, ◌∙◌}
use Rattle.vo_spec.specs.declared.records.Entry.{Entry}
use Rattle.vo_spec.specs.Journals.{batches_of}
use Rattle.vo_spec.specs.Honest.{Stored, honest_trees}
use Rattle.vo_spec.specs.Owners.{AreLoadable}
use Rattle.owner_state.specs.Walking.{GivesTreesIf}
use Rattle.vo_store.specs.declared.signed_record.SignedRecord.{SignedRecord}
use Rattle.vo_store.specs.StoreState.{StoreState, with_installed}
use Rattle.vo_store.specs.HonestStores.{IsHonestStore}
use Rattle.vo_store.specs.Loading.{signed_of}
use Rattle.vo_store.proofs.LoadLaws.{behind_tables, entry_behind, entry_honest, signed_parts}
use Rattle.vo_store.proofs.store.Store.take_entry.Goals as goal

pub check_next_of_store-requires-clause-tables : goal.check_next_of_store-requires-clause-tables
check_next_of_store-requires-clause-tables c =
    c.in_ok-tables.ensures ∙ ap (λ (t : StoreState). t.tables) c.self.view_is ∙ ap (λ (t : StoreState). t.tables) c.requires.behind
    ∙ behind_tables c.args.self.now.key c.args.earlier.now

pub install_version-requires : goal.install_version-requires
install_version-requires c =
    let key : List ℕ = c.args.self.now.key in
    let front : List Entry = c.args.earlier.now in
    let e : Entry = c.args.entry.now in
    let after : List Stored = c.in-Some.after in
    let key_is : c.self.inside.key ≡ key = ap (λ (t : StoreState). t.key) c.self.view_is in
    let g : GivesTreesIf (AreLoadable key (front ++ e ∷ [])) (honest_trees (batches_of (drop 1 (front ++ e ∷ [])))) (Some after) =
    subst (λ (k : List ℕ). GivesTreesIf (AreLoadable k (front ++ e ∷ [])) (honest_trees (batches_of (drop 1 (front ++ e ∷ [])))) (Some after)) key_is
    (subst (GivesTreesIf (AreLoadable c.self.inside.key (front ++ e ∷ [])) (honest_trees (batches_of (drop 1 (front ++ e ∷ []))))) c.in-Some.is c.in_ok-after.ensures) in
    let installed : SignedRecord = c.in_ok-installed-in-Some.installed in
    let installed_is : installed ≡ signed_of e = signed_parts installed c.rec.result.now c.signature.result.now e c.in_ok-installed-in-Some.ensures c.rec.ensures c.signature.ensures in
    subst (λ (x : SignedRecord). IsHonestStore (with_installed x after c.args.self.now)) (sym installed_is)
    (subst (λ (t : StoreState). IsHonestStore (with_installed (signed_of e) after t)) (sym c.requires.behind)
    (entry_honest key front e after c.requires.earlier_fit c.requires.fits g.0 g.1))

pub returns-in_ok-install_version-in-Some : goal.returns-in_ok-install_version-in-Some
returns-in_ok-install_version-in-Some c =
    let key : List ℕ = c.args.self.now.key in
    let front : List Entry = c.args.earlier.now in
    let e : Entry = c.args.entry.now in
    let after : List Stored = c.in-Some.after in
    let key_is : c.self.inside.key ≡ key = ap (λ (t : StoreState). t.key) c.self.view_is in
    let g : GivesTreesIf (AreLoadable key (front ++ e ∷ [])) (honest_trees (batches_of (drop 1 (front ++ e ∷ [])))) (Some after) =
    subst (λ (k : List ℕ). GivesTreesIf (AreLoadable k (front ++ e ∷ [])) (honest_trees (batches_of (drop 1 (front ++ e ∷ [])))) (Some after)) key_is
    (subst (GivesTreesIf (AreLoadable c.self.inside.key (front ++ e ∷ [])) (honest_trees (batches_of (drop 1 (front ++ e ∷ []))))) c.in-Some.is c.in_ok-after.ensures) in
    let installed : SignedRecord = c.in_ok-installed-in-Some.installed in
    let installed_is : installed ≡ signed_of e = signed_parts installed c.rec.result.now c.signature.result.now e c.in_ok-installed-in-Some.ensures c.rec.ensures c.signature.ensures in (
      g.0,
      c.in_ok-install_version-in-Some.ensures.done ∙ ap (λ (x : SignedRecord). with_installed x after c.args.self.now) installed_is
          ∙ ap (with_installed (signed_of e) after) c.requires.behind ∙ entry_behind key front e after g.1,
    )
