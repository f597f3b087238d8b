-- What is found tells that two replies don't show the same, and what isn't that they do.
use Rattle.std.proofs.Common.{◌≡◌, ◌≢◌, ℕ, List, [], ◌∷◌, ◌++◌, length, flat_map, Option, Some, None, Result, Ok, Err, IfOk, is_some, true, false, sym, ap, ◌∙◌, subst, append_assoc}
use Rattle.std.specs.Prelude.{codes}
use Rattle.vo_spec.specs.declared.records.Catalog.{Catalog}
use Rattle.vo_spec.specs.declared.records.Record.{Record}
use Rattle.vo_spec.specs.Collides.{Collides}
use Rattle.vo_spec.specs.Bytes.{block}
use Rattle.vo_spec.specs.Records.{FitsCatalog, record_bytes, catalog_bytes, catalog_digest}
use Rattle.vo_spec.specs.TreeBytes.{tree_bytes}
use Rattle.vo_spec.specs.Trees.{RowTree}
use Rattle.vo_spec.specs.Replies.{Reply, FitsReply, reply_bytes}
use Rattle.vo_laws.proofs.CatalogEncoding.{catalog_told, catalogs_collide}
use Rattle.vo_format.specs.Reading.{reply_at}
use Rattle.vo_format.proofs.ReplyLaws.{reply_again}
use Rattle.tree_collide.specs.Agreements.{HoldsOrCollides}
use Rattle.tree_collide.specs.Preimages.{OfStrings}
use Rattle.reply_meeting.specs.Comparing.{ShowTheSame}
use Rattle.reply_meeting.specs.Meetings.{shown_bytes}

abbrev Found : Type 0
Found = Option (List ℕ × List ℕ)

pub not_found : (found : Found) (fact : Type 0) (Are : OfStrings) → is_some found ≡ false → HoldsOrCollides found fact Are → fact
not_found None fact Are e h = h
not_found (Some pair) fact Are e h = absurd (cc)

-- what is found against a part of a fact is found against the fact
pub found_of_part : (found : Found) (part fact : Type 0) (Are All : OfStrings) → (fact → part) → ((x y : List ℕ) → Are x y → All x y) → is_some found ≡ true
    → HoldsOrCollides found part Are → HoldsOrCollides found fact All
found_of_part None part fact Are All f g e h = absurd (cc)
found_of_part (Some pair) part fact Are All f g e h = ((λ x. h.0 (f x)), h.1, g pair.0 pair.1 h.2)

pub found_as : {E : Type 0} (r : Result Found E) (part fact : Type 0) (Are All : OfStrings) → (part → fact) → (fact → part) → ((x y : List ℕ) → Are x y → All x y)
    → IfOk r (λ found. HoldsOrCollides found part Are) → IfOk r (λ found. HoldsOrCollides found fact All)
found_as (Ok None) part fact Are All f g k h = f h
found_as (Ok (Some pair)) part fact Are All f g k h = ((λ x. h.0 (g x)), h.1, k pair.0 pair.1 h.2)
found_as (Err e) part fact Are All f g k h = tt

-- Catalogs.

pub same_catalogs : (a b : Catalog) (first second : List ℕ) → FitsCatalog a → FitsCatalog b → first ≡ 5 ∷ catalog_bytes a → second ≡ 5 ∷ catalog_bytes b → first ≡ second → a ≡ b
same_catalogs a b first second f g first_is second_is same =
    let bytes : catalog_bytes a ≡ catalog_bytes b = cc in catalog_told a b f g bytes

-- Two replies that show the same bytes.

-- the one reply with what the other shows
abbrev with_shown : Reply → Reply → Reply
with_shown r s = record { rec = r.rec; signature = r.signature; catalog = s.catalog; trees = s.trees }

abbrev head_bytes : Reply → List ℕ
head_bytes r = codes "VOR1" ++ record_bytes r.rec ++ block r.signature

reply_parts : (r : Reply) → reply_bytes r ≡ head_bytes r ++ shown_bytes r
unfolding reply_bytes
reply_parts r = append_assoc (head_bytes r) (block (catalog_bytes r.catalog)) (length r.trees ∷ flat_map tree_bytes r.trees)

with_shown_fits : (r s : Reply) → FitsReply r → FitsReply s → r.rec ≡ s.rec → FitsReply (with_shown r s)
with_shown_fits r s f g rec = record {
  rec = f.rec;
  signature = f.signature;
  catalog = g.catalog;
  count = g.count;
  trees = g.trees;
  magic = ap (λ (x : Record). x.magic) rec ∙ g.magic;
}

-- what is read, or else this
abbrev reply_in : Reply → Option (Reply × List ℕ) → Reply
reply_in r None = r
reply_in r (Some read) = read.0

pub shown_told : (r s : Reply) → FitsReply r → FitsReply s → r.rec ≡ s.rec → shown_bytes r ≡ shown_bytes s → ShowTheSame r s
shown_told r s f g rec same =
    let bytes : reply_bytes r ≡ reply_bytes (with_shown r s) = reply_parts r ∙ ap (λ (shown : List ℕ). head_bytes r ++ shown) same ∙ sym (reply_parts (with_shown r s)) in
    let whole : r ≡ with_shown r s =
    ap (reply_in r) (sym (reply_again r [] f) ∙ ap (λ (b : List ℕ). reply_at (b ++ [])) bytes ∙ reply_again (with_shown r s) [] (with_shown_fits r s f g rec)) in
    (ap (λ (x : Reply). x.catalog) whole, ap (λ (x : Reply). x.trees) whole)

pub shown_same : (r s : Reply) → ShowTheSame r s → shown_bytes r ≡ shown_bytes s
shown_same r s same =
    ap (λ (c : Catalog). block (catalog_bytes c) ++ length r.trees ∷ flat_map tree_bytes r.trees) same.0
    ∙ ap (λ (ts : List RowTree). block (catalog_bytes s.catalog) ++ length ts ∷ flat_map tree_bytes ts) same.1

pub preimages_collide : (a b : Catalog) (first second : List ℕ) → FitsCatalog a → FitsCatalog b → catalog_digest a ≡ catalog_digest b → first ≡ 5 ∷ catalog_bytes a → second ≡ 5 ∷ catalog_bytes b
    → first ≢ second → Collides first second
preimages_collide a b first second f g same first_is second_is differ =
    subst (λ x. Collides x second) (sym first_is) (subst (λ y. Collides (5 ∷ catalog_bytes a) y) (sym second_is) (catalogs_collide a b f g other same))
  where
    other : a ≢ b
    other e = differ (first_is ∙ ap (λ (c : Catalog). 5 ∷ catalog_bytes c) e ∙ sym second_is)

pub catalogs_differ : (a b : Catalog) (first second : List ℕ) → first ≡ 5 ∷ catalog_bytes a → second ≡ 5 ∷ catalog_bytes b → first ≢ second → a ≡ b → ⊥
catalogs_differ a b first second first_is second_is differ e = differ (first_is ∙ ap (λ (c : Catalog). 5 ∷ catalog_bytes c) e ∙ sym second_is)
