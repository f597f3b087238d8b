-- A replacement changes one of the entries that are there, whatever the tree's shape.
use Rattle.std.proofs.Common.{◌≡◌, ℕ, Bool, true, false, cond, bytes_eq, List, [], ◌∷◌, ◌++◌, length, map, drop, Result, Ok, refl, sym, ap, ◌∙◌, arith, append_assoc, length-append}
use Rattle.std.specs.List.{AllByRecursion}
use Rattle.vo_spec.specs.declared.trees.UpdateFault.{UpdateFault}
use Rattle.vo_spec.specs.Parts.{Part, Parts, stub, leaf, inner, none, more, Family, entries, entries_in}
use Rattle.vo_spec.specs.Inserts.{result_map}
use Rattle.vo_spec.specs.Removes.{edit_entry, edited_by, edited_in}
use Rattle.btree.proofs.OkResults.{map_ok, cond_ok}
use Rattle.btree.proofs.InsertedEntries.{all_fixed, fixed_all}

-- the second list is the first with one entry of this key edited
pub record Edits {E : Type 0} (key_of : E → List ℕ) (edit : E → Result E UpdateFault) (key : List ℕ) (xs ys : List E) : Type 0 where
  pub before : List E
  pub after : List E
  pub old : E
  pub new : E
  pub was : xs ≡ before ++ old ∷ after
  pub is : ys ≡ before ++ new ∷ after
  pub has : bytes_eq (key_of old) key ≡ true
  pub edits : edit old ≡ Ok new

module _ {E : Type 0} (key_of : E → List ℕ) (edit : E → Result E UpdateFault) (key : List ℕ) where
  abbrev EditsOne : List E → List E → Type 0
  EditsOne = Edits key_of edit key

  edits_same : (xs ys zs : List E) → EditsOne xs ys → zs ≡ ys → EditsOne xs zs
  edits_same xs ys zs e h =
      record { before = e.before; after = e.after; old = e.old; new = e.new; was = e.was; is = h ∙ e.is; has = e.has; edits = e.edits }

  after_edited : (zs xs ys : List E) → EditsOne xs ys → EditsOne (zs ++ xs) (zs ++ ys)
  after_edited zs xs ys e = record {
    before = zs ++ e.before;
    after = e.after;
    old = e.old;
    new = e.new;
    was = ap (λ l. zs ++ l) e.was ∙ sym (append_assoc zs e.before (e.old ∷ e.after));
    is = ap (λ l. zs ++ l) e.is ∙ sym (append_assoc zs e.before (e.new ∷ e.after));
    has = e.has;
    edits = e.edits;
  }

  before_edited : (zs xs ys : List E) → EditsOne xs ys → EditsOne (xs ++ zs) (ys ++ zs)
  before_edited zs xs ys e = record {
    before = e.before;
    after = e.after ++ zs;
    old = e.old;
    new = e.new;
    was = ap (λ l. l ++ zs) e.was ∙ append_assoc e.before (e.old ∷ e.after) zs;
    is = ap (λ l. l ++ zs) e.is ∙ append_assoc e.before (e.new ∷ e.after) zs;
    has = e.has;
    edits = e.edits;
  }

  -- What holds of the entries.

  pub edits_count : (xs ys : List E) → EditsOne xs ys → length ys ≡ length xs
  edits_count xs ys e =
      let was = ap length e.was in
      let is = ap length e.is in
      omega (arith, length-append e.before (e.old ∷ e.after), length-append e.before (e.new ∷ e.after))

  each_between : (P : E → Type 0) (e : E) (xs ys : List E) → AllByRecursion P (xs ++ e ∷ ys) → P e
  each_between P e [] ys h = h.0
  each_between P e (x ∷ xs) ys h = each_between P e xs ys h.1

  each_with : (P : E → Type 0) (e f : E) (xs ys : List E) → P f → AllByRecursion P (xs ++ e ∷ ys)
      → AllByRecursion P (xs ++ f ∷ ys)
  each_with P e f [] ys new h = (new, h.1)
  each_with P e f (x ∷ xs) ys new h = (h.0, each_with P e f xs ys new h.1)

  -- a map that changes none of the entries, nor what one that it doesn't change is edited to
  pub edits_fixed : (f : E → E) (xs ys : List E) → EditsOne xs ys
      → ((old new : E) → f old ≡ old → edit old ≡ Ok new → f new ≡ new) → map f xs ≡ xs → map f ys ≡ ys
  edits_fixed f xs ys e keeps h =
      let was : map f (e.before ++ e.old ∷ e.after) ≡ e.before ++ e.old ∷ e.after = ap (map f) (sym e.was) ∙ h ∙ e.was in
      let each = all_fixed f _ was in
      let new = keeps e.old e.new (each_between (λ x. f x ≡ x) e.old e.before e.after each) e.edits in
      ap (map f) e.is ∙ fixed_all f _ (each_with (λ x. f x ≡ x) e.old e.new e.before e.after new each) ∙ sym e.is

module _ {E M : Type 0} (family : Family E M) (edit : E → Result E UpdateFault) (key : List ℕ) where
  abbrev EditsTree : List E → List E → Type 0
  EditsTree = Edits family.key edit key

  leaf_step : (b : Bool) (e : E) (es fs : List E) → bytes_eq (family.key e) key ≡ b
      → cond b (result_map (λ f. f ∷ es) (edit e)) (result_map (λ gs. e ∷ gs) (edit_entry family edit key es)) ≡ Ok fs
      → ((gs : List E) → edit_entry family edit key es ≡ Ok gs → EditsTree es gs)
      → EditsTree (e ∷ es) fs
  leaf_step true e es fs has h on =
      let m = map_ok (λ f. f ∷ es) (edit e) fs h in
      record { before = []; after = es; old = e; new = m.value; was = refl; is = m.made; has = has; edits = m.ok }
  leaf_step false e es fs has h on =
      let m = map_ok (λ gs. e ∷ gs) (edit_entry family edit key es) fs h in
      edits_same family.key edit key (e ∷ es) (e ∷ m.value) fs (after_edited family.key edit key (e ∷ []) es m.value (on m.value m.ok)) m.made

  leaf_edits : (es fs : List E) → edit_entry family edit key es ≡ Ok fs → EditsTree es fs
  leaf_edits [] fs h = absurd (cc)
  leaf_edits (e ∷ es) fs h = leaf_step (bytes_eq (family.key e) key) e es fs refl h (λ gs made. leaf_edits es gs made)

  mutual
    pub edited_edits : (t u : Part E M) → edited_by family edit key t ≡ Ok u
        → EditsTree (entries t) (entries u)
    edited_edits (stub d) u h = absurd (cc)
    edited_edits (leaf es) u h =
        let m = map_ok leaf (edit_entry family edit key es) u h in
        edits_same family.key edit key es m.value (entries u) (leaf_edits es m.value m.ok) (ap entries m.made)
    edited_edits (inner ss ps) u h =
        let m = map_ok (inner ss) (edited_in family edit key ss ps) u h in
        edits_same family.key edit key (entries_in ps) (entries_in m.value) (entries u) (children_edited ss ps m.value m.ok) (ap entries m.made)

    children_edited : (ss : List (List ℕ)) (ps qs : Parts E M) → edited_in family edit key ss ps ≡ Ok qs
        → EditsTree (entries_in ps) (entries_in qs)
    children_edited ss none qs h = absurd (cc)
    children_edited ss (more m p ps) qs h =
        cond_ok _ _ _ qs h
        (λ here. let made = map_ok (λ q. more (family.annotation q) q ps) (edited_by family edit key p) qs here in
        edits_same family.key edit key (entries p ++ entries_in ps) (entries made.value ++ entries_in ps) (entries_in qs)
        (before_edited family.key edit key (entries_in ps) (entries p) (entries made.value) (edited_edits p made.value made.ok)) (ap entries_in made.made))
        (λ on. let made = map_ok (more m p) (edited_in family edit key (drop 1 ss) ps) qs on in
        edits_same family.key edit key (entries p ++ entries_in ps) (entries p ++ entries_in made.value) (entries_in qs)
        (after_edited family.key edit key (entries p) (entries_in ps) (entries_in made.value) (children_edited (drop 1 ss) ps made.value made.ok)) (ap entries_in made.made))
