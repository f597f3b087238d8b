-- The roots after a batch.
use Rattle.std.proofs.Common.{◌≡◌, ℕ, ◌+◌, List, Result, Ok, Err, map, inl, inr, refl, sym, ap, ◌∙◌, subst}
use Rattle.std.specs.Prelude.{◌⊎◌}
use Rattle.std.specs.Result.{result_map_both}
use Rattle.vo_spec.specs.declared.tables.Command.{Command}
use Rattle.vo_spec.specs.declared.records.CatalogTable.{CatalogTable}
use Rattle.vo_spec.specs.Trees.{RowTree}
use Rattle.vo_spec.specs.Replies.{AreProofs}
use Rattle.mb_tree.specs.declared.parts.PartTree.{PartTree}
use Rattle.mb_tree.specs.View.{part_of}
use Rattle.owner_roots.specs.declared.owner_fault.OwnerFault.{OwnerFault}
use Rattle.owner_roots.specs.declared.owner_fault.OwnerFault.TheVariants as fault
use Rattle.owner_roots.specs.declared.roots.Roots.{Roots}
use Rattle.owner_roots.specs.Next.{tables_from, roots_with, next_roots, NextOf}
use Rattle.owner_roots.specs.Working.{Gives}

pub next_unread : (roots : Roots) (cs : List Command) (bytes : List ℕ) → ((trees : List RowTree) → AreProofs bytes trees → ⊥)
    → NextOf roots cs bytes (Err (fault.ProofForm 0))
unfolding NextOf
next_unread roots cs bytes none = inl (none, refl)

pub next_given : (roots : Roots) (cs : List Command) (bytes : List ℕ) (trees : List RowTree) (tables : List CatalogTable) → AreProofs bytes trees
    → tables_from 0 cs trees roots.catalog.tables ≡ Ok tables → NextOf roots cs bytes (Ok (roots_with (roots.version + 1) tables))
unfolding NextOf next_roots
next_given roots cs bytes trees tables are e =
    inr (trees, are, sym (ap (result_map_both (roots_with (roots.version + 1)) (λ (why : OwnerFault). why)) e))

pub next_refused : {X : Type 0} (view : X → List CatalogTable) (roots : Roots) (cs : List Command) (bytes : List ℕ) (trees : List RowTree) (why : OwnerFault)
    (answer : Result Roots OwnerFault) → answer ≡ Err why → AreProofs bytes trees → Gives view (Err why) (tables_from 0 cs trees roots.catalog.tables)
    → (answer ≡ Err fault.Memory) ⊎ NextOf roots cs bytes answer
unfolding NextOf next_roots
next_refused view roots cs bytes trees why answer is are gives = step why gives is
  where
    end : Result (List CatalogTable) OwnerFault → Result Roots OwnerFault
    end r = result_map_both (roots_with (roots.version + 1)) (λ (why : OwnerFault). why) r

    step : (f : OwnerFault) → Gives view (Err f) (tables_from 0 cs trees roots.catalog.tables) → answer ≡ Err f → (answer ≡ Err fault.Memory) ⊎ NextOf roots cs bytes answer
    step fault.Memory g e = inl e
    step (fault.Command i f) g e = inr (inr (trees, are, e ∙ sym (ap end g)))
    step (fault.ProofForm i) g e = inr (inr (trees, are, e ∙ sym (ap end g)))
    step (fault.ProofRoot i want got) g e = inr (inr (trees, are, e ∙ sym (ap end g)))
    step (fault.ProofMissing i) g e = inr (inr (trees, are, e ∙ sym (ap end g)))
    step (fault.ProofSurplus i) g e = inr (inr (trees, are, e ∙ sym (ap end g)))
    step fault.KeySpent g e = inr (inr (trees, are, e ∙ sym (ap end g)))

-- the same of what calls lend
pub seen_given : (roots : Roots) (cs lent : List Command) (bytes : List ℕ) (parts lent_parts : List PartTree) (before tables : List CatalogTable)
    → AreProofs bytes (map part_of parts) → lent ≡ cs → lent_parts ≡ parts → before ≡ roots.catalog.tables
    → tables_from 0 lent (map part_of lent_parts) before ≡ Ok tables → NextOf roots cs bytes (Ok (roots_with (roots.version + 1) tables))
seen_given roots cs lent bytes parts lent_parts before tables are same same_parts start e =
    next_given roots cs bytes (map part_of parts) tables are
    (ap (λ ts. tables_from 0 cs (map part_of parts) ts) (sym start)
    ∙ ap (λ ps. tables_from 0 cs (map part_of ps) before) (sym same_parts)
    ∙ ap (λ xs. tables_from 0 xs (map part_of lent_parts) before) (sym same) ∙ e)

pub seen_refused : {X : Type 0} (view : X → List CatalogTable) (roots : Roots) (cs lent : List Command) (bytes : List ℕ) (parts lent_parts : List PartTree) (before : List CatalogTable)
    (why : OwnerFault) (answer : Result Roots OwnerFault) → answer ≡ Err why → AreProofs bytes (map part_of parts) → lent ≡ cs → lent_parts ≡ parts → before ≡ roots.catalog.tables
    → Gives view (Err why) (tables_from 0 lent (map part_of lent_parts) before) → (answer ≡ Err fault.Memory) ⊎ NextOf roots cs bytes answer
seen_refused view roots cs lent bytes parts lent_parts before why answer is are same same_parts start gives =
    next_refused view roots cs bytes (map part_of parts) why answer is are
    (subst (Gives view (Err why))
    (ap (λ xs. tables_from 0 xs (map part_of lent_parts) before) same
    ∙ ap (λ ps. tables_from 0 cs (map part_of ps) before) same_parts
    ∙ ap (λ ts. tables_from 0 cs (map part_of parts) ts) start) gives)
