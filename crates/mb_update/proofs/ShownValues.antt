-- The values that cells show, cell by cell.
use Rattle.std.proofs.Common.{◌≡◌, ℕ, ◌+◌, ◌<◌, List, [], ◌∷◌, ◌++◌, length, take, get_or, refl, sym, ap, ◌∙◌}
use Rattle.std.proofs.lemmas.List.{take_more}
use Rattle.vo_spec.specs.declared.cells.Cell.{Cell}
use Rattle.vo_spec.specs.declared.cells.Cell.TheVariants.{Shown, Hidden}
use Rattle.vo_spec.specs.Representation.{shown_values}

shown_append : (xs ys : List Cell) → shown_values (xs ++ ys) ≡ shown_values xs ++ shown_values ys
shown_append [] ys = refl
shown_append (Shown v ∷ xs) ys = ap (λ l. v ∷ l) (shown_append xs ys)
shown_append (Hidden d ∷ xs) ys = shown_append xs ys

pub shown_more : (cells : List Cell) (i : ℕ) (c : Cell) → i < length cells → c ≡ get_or cells i c
    → shown_values (take (i + 1) cells) ≡ shown_values (take i cells) ++ shown_values (c ∷ [])
shown_more cells i c lt is =
    ap shown_values (take_more cells i c lt) ∙ shown_append (take i cells) (get_or cells i c ∷ []) ∙ ap (λ x. shown_values (take i cells) ++ shown_values (x ∷ [])) (sym is)
