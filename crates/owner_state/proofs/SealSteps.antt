-- Sealing one batch more: the trees, the slots, and the fault that is left to find.
use Rattle.std.proofs.Common.{◌≡◌, ℕ, zero, suc, ◌+◌, ◌<◌, ◌≤◌, false, cond, leb, List, [], ◌∷◌, ◌++◌, length, take, drop, get_or, Some, None, Result, Ok, Err, refl, sym, ap, ◌∙◌, subst, inl, inr, append-nil, arith}
use Rattle.std.specs.Prelude.{◌≢◌, IsOk, flat_map}
use Rattle.std.specs.List.{AllByRecursion}
use Rattle.std.proofs.lemmas.Bool.{le-leb}
use Rattle.std.proofs.lemmas.Bool.Decides.{leb_tells}
use Rattle.std.proofs.lemmas.Grind.{flat_map-append}
use Rattle.std.proofs.Math.ListN.{get_or-map}
use Rattle.std.proofs.lemmas.List.{at_drop_more, drop_all, length-map, length-take-le, take_all, take_more}
use Rattle.vo_spec.specs.declared.tables.Batch.{Batch}
use Rattle.vo_spec.specs.declared.tables.Command.{Command}
use Rattle.vo_spec.specs.declared.tables.CommandFault.{CommandFault}
use Rattle.vo_spec.specs.declared.tables.Table.{Table}
use Rattle.vo_spec.specs.Secret.{Secret, secret_leaves}
use Rattle.vo_spec.specs.Batches.{FitsBatch}
use Rattle.vo_spec.specs.Tables.{apply_batch, tables_after}
use Rattle.vo_spec.specs.declared.records.Entry.{Entry}
use Rattle.vo_spec.specs.Journals.{slot}
use Rattle.vo_spec.specs.Replies.{FitsProofs, proofs_bytes}
use Rattle.vo_spec.specs.Honest.{Stored, RepresentTables, after_work, work_all, honest_proofs, honest_record, honest_trees, sealed_entry, seal_batches}
use Rattle.vo_laws.proofs.TreeFits.{each_loadable}
use Rattle.vo_laws.proofs.ListLaws.{each_map}
use Rattle.vo_laws.proofs.StepLaws.{trees_follow, no_commands_fit, no_trees_before, both_take}
use Rattle.vo_laws.proofs.RepresentationLaws.{stands}
use Rattle.vo_laws.proofs.ProofSizes.{honest_proofs_fit}
use Rattle.vo_laws.proofs.SealedLaws.{sealed_grows}
use Rattle.table_list.specs.declared.fault.BatchFault.TheVariants as batch_fault
use Rattle.stored_tables.specs.Working.{work_from}
use Rattle.stored_tables.specs.Representation.{IsStanding}
use Rattle.stored_tables.proofs.WorkLaws.{gives_plain}
use Rattle.owner_roots.specs.declared.owner_fault.OwnerFault.{OwnerFault}
use Rattle.owner_roots.specs.declared.owner_fault.OwnerFault.TheVariants as owner
use Rattle.owner_roots.specs.declared.roots.Roots.{Roots}
use Rattle.owner_roots.specs.Next.{NextOf}
use Rattle.root_laws.proofs.BatchSteps.{accepted_roots, batch_proved}
use Rattle.root_laws.proofs.Representation.{honest_standing}
use Rattle.owner_state.specs.declared.next_version.Sealed.{Sealed}
use Rattle.owner_state.specs.declared.sealing.SealFault.{SealFault}
use Rattle.owner_state.specs.declared.sealing.SealFault.TheVariants.{KeySpent, Command as Refused, Memory}
use Rattle.owner_roots.specs.Owners.{honest_roots, record_of_roots}
use Rattle.owner_state.specs.declared.steps.Step.{Step}
use Rattle.owner_state.specs.Held.{Held}
use Rattle.owner_state.specs.Stepping.{signed_entry, step_to}
use Rattle.owner_state.specs.EntriesOnTrees.{entry_on}
use Rattle.owner_state.specs.Sealing.{FitEach, commands_of, or_later, seal_fault}
use Rattle.owner_state.specs.SealResults.{IsAt, Seals}
use Rattle.owner_state.proofs.OwnerSteps.{Steps, one_step, step_made}
use Rattle.owner_state.proofs.WorkTurns.{work_accepted, work_left}

-- Lists of batches.

pub each_at : {A : Type 0} (P : A → Type 0) (xs : List A) (n : ℕ) (x : A) → AllByRecursion P xs → n < length xs → x ≡ get_or xs n x → P x
each_at P [] n x all lt is = absurd (omega arith)
each_at P (y ∷ xs) zero x all lt is = subst P (sym is) all.0
each_at P (y ∷ xs) (suc n) x all lt is = each_at P xs n x all.1 (omega arith) is

pub each_fits : (batches : List Batch) → FitEach batches → AllByRecursion FitsBatch (commands_of batches)
each_fits batches fit = each_map FitsBatch (λ (batch : Batch). batch.commands) batches fit

-- The entry.

pub entry_is : (secret : Secret) (earlier : List (List Command)) (stored : List Stored) (batch : List Command) → stored ≡ honest_trees earlier
    → entry_on secret (length earlier) stored batch ≡ sealed_entry secret earlier batch
unfolding entry_on sealed_entry signed_entry record_of_roots honest_record
entry_is secret earlier stored batch e =
    ap (λ (ss : List Stored). signed_entry secret (honest_roots (length earlier) (after_work ss batch)) batch (proofs_bytes (honest_proofs batch ss))) e
    ∙ ap (λ (after : List Stored). signed_entry secret (honest_roots (length earlier) after) batch (proofs_bytes (honest_proofs batch (honest_trees earlier)))) (sym (trees_follow earlier batch))

-- The first of these batches are sealed: their trees, their slots, and the fault that is left.
pub record IsSealed (secret : Secret) (cs : List (List Command)) (n : ℕ) (s : Sealed) : Type 0 where
  pub within : n ≤ length cs
  pub at : IsAt secret n s
  pub trees : s.tables ≡ honest_trees (take n cs)
  pub slots_are : s.slots.items ≡ flat_map slot (seal_batches secret (take n cs))
  pub left : seal_fault (secret_leaves secret) ([] ∷ take n cs) (drop n cs) ≡ seal_fault (secret_leaves secret) ([] ∷ []) cs

pub first_sealed : (secret : Secret) (cs : List (List Command)) (s : Sealed) → IsAt secret 0 s → s.tables ≡ [] → s.slots.items ≡ slot (entry_on secret 0 [] []) → IsSealed secret cs 0 s
unfolding honest_trees seal_batches
first_sealed secret cs s at e f = record {
  within = omega arith;
  at = at;
  trees = e;
  slots_are = f ∙ ap slot (entry_is secret [] [] [] refl) ∙ sym (append-nil (slot (sealed_entry secret [] [])));
  left = refl;
}

-- what stands before one of the batches
pub record IsNext (cs : List (List Command)) (n : ℕ) (batch : List Command) : Type 0 where
  pub there : n < length cs
  pub is : batch ≡ get_or cs n batch

taken_on : (cs : List (List Command)) (n : ℕ) (batch : List Command) → IsNext cs n batch → take (n + 1) cs ≡ take n cs ++ batch ∷ []
taken_on cs n batch i = take_more cs n batch i.there ∙ ap (λ (b : List Command). take n cs ++ b ∷ []) (sym i.is)

left_on : (cs : List (List Command)) (n : ℕ) (batch : List Command) → IsNext cs n batch → drop n cs ≡ batch ∷ drop (n + 1) cs
left_on cs n batch i = at_drop_more (λ (xs : List (List Command)). xs) cs n batch i.there ∙ ap (λ (b : List Command). b ∷ drop (n + 1) cs) (sym i.is)

long : (cs : List (List Command)) (n : ℕ) (batch : List Command) → IsNext cs n batch → length ([] ∷ take n cs) ≡ n + 1
long cs n batch i =
    let there : n < length cs = i.there in
    let taken : length (take n cs) ≡ n = length-take-le n cs (omega arith) in
    omega arith

proofs_for : (cs : List (List Command)) (n : ℕ) (batch : List Command) (stored : List Stored) → AllByRecursion FitsBatch cs → IsNext cs n batch → stored ≡ honest_trees (take n cs) → FitsProofs (honest_proofs batch stored)
proofs_for cs n batch stored ok i e =
    subst (λ (ss : List Stored). FitsProofs (honest_proofs batch ss)) (sym e)
    (honest_proofs_fit (take n cs) batch (each_loadable FitsBatch n cs ok) (each_at FitsBatch cs n batch ok i.there i.is))

-- what seal_next asks of a batch
pub record IsReady (batch : List Command) (stored : List Stored) : Type 0 where
  pub standing : IsStanding stored
  pub fits : FitsBatch batch
  pub proofs : FitsProofs (honest_proofs batch stored)

pub ready : (cs : List (List Command)) (n : ℕ) (batch : List Command) (stored : List Stored) → AllByRecursion FitsBatch cs → IsNext cs n batch → stored ≡ honest_trees (take n cs) → IsReady batch stored
ready cs n batch stored ok i e = record {
  standing = subst IsStanding (sym e) (honest_standing (take n cs) (each_loadable FitsBatch n cs ok));
  fits = each_at FitsBatch cs n batch ok i.there i.is;
  proofs = proofs_for cs n batch stored ok i e;
}

-- The fault, batch by batch.

abbrev Earlier : List (List Command) → ℕ → List (List Command)
Earlier cs n = [] ∷ take n cs

earlier_fit : (cs : List (List Command)) (n : ℕ) → AllByRecursion FitsBatch cs → AllByRecursion FitsBatch (Earlier cs n)
earlier_fit cs n ok = (no_commands_fit, each_loadable FitsBatch n cs ok)

not_spent : (leaves version : ℕ) → version < leaves → leb leaves version ≡ false
not_spent leaves version lt = elim (leb_tells leaves version) [ inl t ↦ absurd (omega (arith, t.1)) | inr t ↦ t.0 ]

no_fault_here : (leaves : ℕ) (earlier : List (List Command)) (batch : List Command) (rest : List (List Command)) → length earlier < leaves
    → IsOk (apply_batch batch (tables_after earlier)) → seal_fault leaves earlier (batch ∷ rest) ≡ seal_fault leaves (earlier ++ batch ∷ []) rest
unfolding seal_fault
no_fault_here leaves earlier batch rest lt ok =
    ap (λ b. cond b (Some KeySpent) (or_later (apply_batch batch (tables_after earlier)) (seal_fault leaves (earlier ++ batch ∷ []) rest))) (not_spent leaves (length earlier) lt)
    ∙ step (apply_batch batch (tables_after earlier)) ok
  where
    step : (r : Result (List Table) (ℕ × CommandFault)) → IsOk r → or_later r (seal_fault leaves (earlier ++ batch ∷ []) rest) ≡ seal_fault leaves (earlier ++ batch ∷ []) rest
    step (Ok tables) is = refl
    step (Err refused) is = absurd (cc)

spent_here : (leaves : ℕ) (earlier : List (List Command)) (batch : List Command) (rest : List (List Command)) → leaves ≤ length earlier
    → seal_fault leaves earlier (batch ∷ rest) ≡ Some KeySpent
unfolding seal_fault
spent_here leaves earlier batch rest le =
    ap (λ b. cond b (Some KeySpent) (or_later (apply_batch batch (tables_after earlier)) (seal_fault leaves (earlier ++ batch ∷ []) rest))) (le-leb leaves (length earlier) le)

refused_here : (leaves : ℕ) (earlier : List (List Command)) (batch : List Command) (rest : List (List Command)) (index : ℕ) (why : CommandFault) → length earlier < leaves
    → apply_batch batch (tables_after earlier) ≡ Err (index, why) → seal_fault leaves earlier (batch ∷ rest) ≡ Some (Refused index why)
unfolding seal_fault
refused_here leaves earlier batch rest index why lt e =
    ap (λ b. cond b (Some KeySpent) (or_later (apply_batch batch (tables_after earlier)) (seal_fault leaves (earlier ++ batch ∷ []) rest))) (not_spent leaves (length earlier) lt)
    ∙ ap (λ r. or_later r (seal_fault leaves (earlier ++ batch ∷ []) rest)) e

-- One batch more.

pub next_sealed : (secret : Secret) (cs : List (List Command)) (n : ℕ) (batch : List Command) (before after : Sealed) → AllByRecursion FitsBatch cs
    → IsSealed secret cs n before → IsNext cs n batch → Seals secret (n + 1) before batch (Ok after)
    → IsSealed secret cs (n + 1) after
next_sealed secret cs n batch before after ok s i done =
    let r = ready cs n batch before.tables ok i s.trees in
    let there : n < length cs = i.there in
    let many : length (Earlier cs n) ≡ n + 1 = long cs n batch i in
    let trees_before : before.tables ≡ honest_trees (Earlier cs n) = s.trees ∙ sym (no_trees_before (take n cs)) in
    let accepted : IsOk (apply_batch batch (tables_after (Earlier cs n))) =
    (both_take (Earlier cs n) batch (earlier_fit cs n ok) r.fits).0
    (subst (λ (ss : List Stored). IsOk (work_all batch ss)) trees_before (work_accepted batch before.tables after.tables done.1)) in
    record {
      within = omega arith;
      at = done.3;
      trees = work_left batch before.tables after.tables done.1 ∙ ap (λ (ss : List Stored). after_work ss batch) s.trees ∙ sym (trees_follow (take n cs) batch)
          ∙ ap honest_trees (sym (taken_on cs n batch i));
      slots_are = done.2
          ∙ ap (λ (t : List ℕ). t ++ slot (entry_on secret (n + 1) before.tables batch)) s.slots_are
          ∙ ap (λ (e : Entry). flat_map slot (seal_batches secret (take n cs)) ++ slot e)
          (ap (λ (v : ℕ). entry_on secret v before.tables batch) (sym many) ∙ entry_is secret (Earlier cs n) before.tables batch trees_before)
          ∙ ap (λ (t : List ℕ). flat_map slot (seal_batches secret (take n cs)) ++ t) (sym (append-nil (slot (sealed_entry secret (Earlier cs n) batch))))
          ∙ sym (flat_map-append slot (seal_batches secret (take n cs)) (sealed_entry secret (Earlier cs n) batch ∷ []))
          ∙ ap (flat_map slot) (sym (sealed_grows secret (take n cs) batch))
          ∙ ap (λ (bs : List (List Command)). flat_map slot (seal_batches secret bs)) (sym (taken_on cs n batch i));
      left = ap (λ (bs : List (List Command)). seal_fault (secret_leaves secret) ([] ∷ bs) (drop (n + 1) cs)) (taken_on cs n batch i)
          ∙ sym (no_fault_here (secret_leaves secret) (Earlier cs n) batch (drop (n + 1) cs) (subst (λ (v : ℕ). v < secret_leaves secret) (sym many) done.0) accepted)
          ∙ ap (seal_fault (secret_leaves secret) (Earlier cs n)) (sym (left_on cs n batch i))
          ∙ s.left;
    }

-- A fault.

pub not_sealed : (secret : Secret) (cs : List (List Command)) (n : ℕ) (batch : List Command) (before : Sealed) (why : SealFault) → AllByRecursion FitsBatch cs
    → IsSealed secret cs n before → IsNext cs n batch → Seals secret (n + 1) before batch (Err why) → why ≢ Memory
    → seal_fault (secret_leaves secret) ([] ∷ []) cs ≡ Some why
not_sealed secret cs n batch before why ok s i told known =
    sym s.left ∙ ap (seal_fault (secret_leaves secret) (Earlier cs n)) (left_on cs n batch i) ∙ by_fault why told known
  where
    trees_before : before.tables ≡ honest_trees (Earlier cs n)
    trees_before = s.trees ∙ sym (no_trees_before (take n cs))

    refused : (index : ℕ) (fault : CommandFault) → work_from 0 batch before.tables ≡ Err (index, fault) → apply_batch batch (tables_after (Earlier cs n)) ≡ Err (index, fault)
    refused index fault e =
        let r = ready cs n batch before.tables ok i s.trees in
        let z = stands (Earlier cs n) (earlier_fit cs n ok) in
        gives_plain (λ (ss : List Stored). ss) batch before.tables (tables_after (Earlier cs n)) (Err (batch_fault.Command index fault)) r.fits.each e
        (subst (λ (ss : List Stored). RepresentTables ss (tables_after (Earlier cs n))) (sym trees_before) z.0) z.1

    by_fault : (f : SealFault) → Seals secret (n + 1) before batch (Err f) → f ≢ Memory → seal_fault (secret_leaves secret) (Earlier cs n) (batch ∷ drop (n + 1) cs) ≡ Some f
    by_fault KeySpent t k = spent_here (secret_leaves secret) (Earlier cs n) batch (drop (n + 1) cs) (subst (λ (v : ℕ). secret_leaves secret ≤ v) (sym (long cs n batch i)) t)
    by_fault (Refused index fault) t k =
        refused_here (secret_leaves secret) (Earlier cs n) batch (drop (n + 1) cs) index fault
        (subst (λ (v : ℕ). v < secret_leaves secret) (sym (long cs n batch i)) t.0) (refused index fault t.1)
    by_fault Memory t k = absurd (k refl)

-- The end.

pub all_sealed : (secret : Secret) (cs : List (List Command)) (n : ℕ) (last : Sealed) → IsSealed secret cs n last → n ≡ length cs
    → (last.slots.items ≡ flat_map slot (seal_batches secret cs)) × (seal_fault (secret_leaves secret) ([] ∷ []) cs ≡ None)
unfolding seal_fault
all_sealed secret cs n last s e =
    let all : take n cs ≡ cs = take_all n cs (omega arith) in (
      s.slots_are ∙ ap (λ (bs : List (List Command)). flat_map slot (seal_batches secret bs)) all,
      sym s.left ∙ ap (seal_fault (secret_leaves secret) ([] ∷ take n cs)) (drop_all n cs (omega arith)),
    )

-- the batch that a walk over all of them comes to
pub next_is : (batches : List Batch) (n : ℕ) (batch : Batch) → n < length batches → batch ≡ get_or batches n batch → IsNext (commands_of batches) n batch.commands
next_is batches n batch there is =
    let as_many : length (commands_of batches) ≡ length batches = length-map batches (λ (b : Batch). b.commands) in
    record {
      there = omega (arith, there);
      is = ap (λ (b : Batch). b.commands) is ∙ sym (get_or-map (λ (b : Batch). b.commands) batches n batch);
    }

-- The entry by the tables behind the batch.
pub entry_behind : (secret : Secret) (version : ℕ) (stored after : List Stored) (batch : List Command) → work_all batch stored ≡ Ok after
    → signed_entry secret (honest_roots version after) batch (proofs_bytes (honest_proofs batch stored)) ≡ entry_on secret version stored batch
unfolding entry_on
entry_behind secret version stored after batch done =
    ap (λ (ss : List Stored). signed_entry secret (honest_roots version ss) batch (proofs_bytes (honest_proofs batch stored))) (work_left batch stored after done)
