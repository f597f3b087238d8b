-- The reply by honest trees.
use Rattle.std.proofs.Common.{◌≡◌, ℕ, ◌≤◌, List, [], ◌∷◌, length, sym, ap, subst, ◌∙◌}
use Rattle.std.specs.List.{AllByRecursion}
use Rattle.vo_spec.specs.declared.records.Catalog.{Catalog}
use Rattle.vo_spec.specs.declared.records.Entry.{Entry}
use Rattle.vo_spec.specs.declared.records.Record.{Record}
use Rattle.vo_spec.specs.Conditions.{Query}
use Rattle.vo_spec.specs.Records.{FitsRecord, magic_of}
use Rattle.vo_spec.specs.Journals.{FitsEntry, IsJournal, max_signature}
use Rattle.vo_spec.specs.Trees.{RowTree}
use Rattle.vo_spec.specs.Replies.{FitsReply, Reply}
use Rattle.vo_spec.specs.Honest.{Stored, catalog_of, honest_reply, honest_trees}
use Rattle.vo_laws.proofs.ReplyFits.{reply_fits}
use Rattle.stored_tables.specs.Representation.{IsStanding}
use Rattle.root_laws.proofs.Representation.{honest_standing}
use Rattle.vo_store.specs.HonestStores.{AreHonest}
use Rattle.vo_store.specs.Proving.{proofs_of}

pub trees_standing : (stored : List Stored) → AreHonest stored → IsStanding stored
trees_standing stored h = subst IsStanding (sym h.2) (honest_standing h.0 h.1)

pub journal_fits : (journal : List ℕ) (es : List Entry) → IsJournal journal es → AllByRecursion FitsEntry es
journal_fits journal [] is = tt
journal_fits journal (e ∷ es) is = is.0

module _ (q : Query) (rec : Record) (stored : List Stored) where
  abbrev reply_with : List ℕ → Catalog → List RowTree → Reply
  reply_with signature catalog trees = record { rec = rec; signature = signature; catalog = catalog; trees = trees }

  module _ (signature own : List ℕ) (catalog : Catalog) (trees : List RowTree) (signature_is : signature ≡ own) (catalog_is : catalog ≡ catalog_of stored) (trees_are : trees ≡ proofs_of q stored) where
    pub reply_is : reply_with signature catalog trees ≡ honest_reply q rec own stored
    unfolding honest_reply
    reply_is =
        ap (λ s. reply_with s catalog trees) signature_is
        ∙ ap (λ c. reply_with own c trees) catalog_is
        ∙ ap (reply_with own (catalog_of stored)) trees_are

    pub reply_within : AreHonest stored → FitsRecord rec → rec.magic ≡ magic_of (catalog_of stored) → length own ≤ max_signature → FitsReply (reply_with signature catalog trees)
    reply_within h fits magic short =
        let there : rec.magic ≡ magic_of (catalog_of (honest_trees h.0)) = magic ∙ ap (λ ss. magic_of (catalog_of ss)) h.2 in
        subst FitsReply (sym reply_is) (subst (λ ss. FitsReply (honest_reply q rec own ss)) (sym h.2) (reply_fits h.0 q rec own h.1 fits there short))
