-- The record that is due, and its signature: why one is refused.
use Rattle.std.proofs.Common.{◌≡◌, ℕ, Bool, true, false, List, [], ◌∷◌, Option, Some, None, Result, Ok, Err, refl, sym, ap, subst, ◌∙◌}
use Rattle.std.specs.Prelude.{◌==◌, not}
use Rattle.std.specs.Option.{option_map_or}
use Rattle.std.proofs.lemmas.Bool.{and_parts, and_from, eqb-true, eq-eqb}
use Rattle.std.proofs.lemmas.Slice.Eq.{bytes_eq-Decides}
use Rattle.vo_spec.specs.declared.records.Magic.{Magic}
use Rattle.vo_spec.specs.declared.records.Magic.TheVariants.{Vrec, Vrc2}
use Rattle.vo_spec.specs.declared.records.Record.{Record}
use Rattle.vo_spec.specs.Firsts.{and_then, first_of, unless}
use Rattle.vo_spec.specs.Keys.{leaf_of}
use Rattle.vo_spec.specs.Owners.{IsSigned}
use Rattle.vo_spec.specs.Honest.{Stored, honest_record}
use Rattle.vo_store.specs.declared.fault.StoreFault.{StoreFault}
use Rattle.vo_store.specs.declared.fault.StoreFault.TheVariants as fault
use Rattle.vo_store.specs.declared.signed_record.SignedRecord.{SignedRecord}
use Rattle.vo_store.specs.StoreState.{StoreState, with_installed}
use Rattle.vo_store.specs.Calls.{same_magic, same_record, is_signed, signed_record, install_on, install_of, next_version}

-- a test that doesn't hold is false
fails : (b : Bool) → (b ≡ true → ⊥) → b ≡ false
fails true other = absurd (other refl)
fails false other = refl

abbrev record_with : Magic → List ℕ → ℕ → List ℕ → Record
record_with magic id version catalog = record { magic = magic; id = id; version = version; catalog = catalog }

same_words : (a b : Magic) → same_magic a b ≡ true → a ≡ b
same_words Vrec Vrec e = refl
same_words Vrc2 Vrc2 e = refl
same_words a b e = absurd (cc)

same_word : (a : Magic) → same_magic a a ≡ true
same_word Vrec = refl
same_word Vrc2 = refl

same_parts : (a b : Record) → same_record a b ≡ true → a ≡ b
same_parts a b e =
    let all = and_parts _ _ e in
    let front = and_parts _ _ all.0 in
    let begun = and_parts _ _ front.0 in
    let magic : a.magic ≡ b.magic = same_words a.magic b.magic begun.0 in
    let id : a.id ≡ b.id = (bytes_eq-Decides a.id b.id).0 begun.1 in
    let version : a.version ≡ b.version = eqb-true a.version b.version front.1 in
    let catalog : a.catalog ≡ b.catalog = (bytes_eq-Decides a.catalog b.catalog).0 all.1 in
    ap (λ (x : Magic). record_with x a.id a.version a.catalog) magic ∙ ap (λ (x : List ℕ). record_with b.magic x a.version a.catalog) id
    ∙ ap (λ (x : ℕ). record_with b.magic b.id x a.catalog) version ∙ ap (λ (x : List ℕ). record_with b.magic b.id b.version x) catalog

same_self : (a : Record) → same_record a a ≡ true
same_self a = and_from _ _ (and_from _ _ (and_from _ _ (same_word a.magic) ((bytes_eq-Decides a.id a.id).1 refl)) (eq-eqb a.version a.version refl)) ((bytes_eq-Decides a.catalog a.catalog).1 refl)

pub same_now : (a b : Record) → a ≡ b → same_record a b ≡ true
same_now a b e = subst (λ (c : Record). same_record a c ≡ true) e (same_self a)

module _ (key : List ℕ) (rec : Record) (signature : List ℕ) where
  abbrev by_leaf : Option ℕ → Bool
  by_leaf o = option_map_or (λ leaf. leaf == rec.version) o false

  signed_told : IsSigned key rec signature → is_signed key rec signature ≡ true
  signed_told s = and_from _ _ (ap by_leaf s.leaf ∙ eq-eqb rec.version rec.version refl) s.valid

  told_signed : is_signed key rec signature ≡ true → IsSigned key rec signature
  told_signed e =
      let both = and_parts _ _ e in
      record { leaf = leaf (leaf_of key signature) both.0; valid = both.1 }
    where
      leaf : (o : Option ℕ) → by_leaf o ≡ true → o ≡ Some rec.version
      leaf None e = absurd (cc)
      leaf (Some q) e = ap Some (eqb-true q rec.version e)

  -- What the tests give.

  module _ (due : Record) where
    abbrev installed : SignedRecord
    installed = record { rec = rec; signature = signature }

    abbrev by : Bool → Bool → Result SignedRecord StoreFault
    by same signed = unless (first_of ((not same, fault.WrongRecord due rec) ∷ (not signed, fault.BadSignature) ∷ [])) installed

    pub wrong_record : (rec ≡ due → ⊥) → signed_record key due rec signature ≡ Err (fault.WrongRecord due rec)
    wrong_record other = ap (λ b. by b (is_signed key rec signature)) (fails (same_record rec due) (λ e. other (same_parts rec due e)))

    pub bad_signature : rec ≡ due → (IsSigned key rec signature → ⊥) → signed_record key due rec signature ≡ Err fault.BadSignature
    bad_signature same unsigned =
        ap (λ b. by b (is_signed key rec signature)) (same_now rec due same) ∙ ap (by true) (fails (is_signed key rec signature) (λ e. unsigned (told_signed e)))

    pub good_record : rec ≡ due → IsSigned key rec signature → signed_record key due rec signature ≡ Ok installed
    good_record same signed = ap (λ b. by b (is_signed key rec signature)) (same_now rec due same) ∙ ap (by true) (signed_told signed)

    pub record IsGood (found : SignedRecord) : Type 0 where
      pub found_is : found ≡ installed
      pub due_is : rec ≡ due
      pub signed : IsSigned key rec signature

    pub good_only : (found : SignedRecord) → signed_record key due rec signature ≡ Ok found → IsGood found
    good_only found e = step (same_record rec due) (is_signed key rec signature) refl refl e
      where
        step : (same signed : Bool) → same_record rec due ≡ same → is_signed key rec signature ≡ signed → by same signed ≡ Ok found → IsGood found
        step false signed s t f = absurd (cc)
        step true false s t f = absurd (cc)
        step true true s t f = record { found_is = cc; due_is = same_parts rec due s; signed = told_signed t }

-- An install that a store takes.

module _ (s : StoreState) (rec : Record) (signature : List ℕ) where
  pub record Installs (next : StoreState) : Type 0 where
    pub after : List Stored
    pub pending : s.pending ≡ Some after
    pub next_is : next ≡ with_installed (record { rec = rec; signature = signature }) after s
    pub due : rec ≡ honest_record s.key (next_version s.installed) after
    pub signed : IsSigned s.key rec signature

  abbrev install_by : Option (List Stored) → Result StoreState StoreFault
  install_by o = option_map_or (λ after. install_on after s rec signature) o (Err fault.NothingProposed)

  pub installs : (next : StoreState) → install_of s rec signature ≡ Ok next → Installs next
  unfolding install_of
  installs next e = step s.pending refl e
    where
      inner : (after : List Stored) → s.pending ≡ Some after → (r : Result SignedRecord StoreFault) → signed_record s.key (honest_record s.key (next_version s.installed) after) rec signature ≡ r
          → and_then (λ installed. Ok (with_installed installed after s)) r ≡ Ok next → Installs next
      inner after p (Err why) is f = absurd (cc)
      inner after p (Ok found) is f =
          let good = good_only s.key rec signature (honest_record s.key (next_version s.installed) after) found is in
          let made : with_installed found after s ≡ next = cc in
          record {
            after = after;
            pending = p;
            next_is = sym made ∙ ap (λ (x : SignedRecord). with_installed x after s) good.found_is;
            due = good.due_is;
            signed = good.signed;
          }

      step : (o : Option (List Stored)) → s.pending ≡ o → install_by o ≡ Ok next → Installs next
      step None p f = absurd (cc)
      step (Some after) p f = inner after p (signed_record s.key (honest_record s.key (next_version s.installed) after) rec signature) refl f

  -- and one whose record is due and signed is taken
  pub install_good : (after : List Stored) → s.pending ≡ Some after → rec ≡ honest_record s.key (next_version s.installed) after → IsSigned s.key rec signature
      → install_of s rec signature ≡ Ok (with_installed (record { rec = rec; signature = signature }) after s)
  unfolding install_of
  install_good after pending due signed =
      ap install_by pending
      ∙ ap (and_then (λ installed. Ok (with_installed installed after s))) (good_record s.key rec signature (honest_record s.key (next_version s.installed) after) due signed)
