-- Lists of trees that are the same.
use Rattle.std.proofs.Common.{◌≡◌, ℕ, zero, suc, ◌<◌, List, [], ◌∷◌, length, map, get_or}
use Rattle.std.proofs.Common.{refl, sym, ap, ◌∙◌, arith}
use Rattle.vo_spec.specs.Trees.{RowTree, open_parts}
use Rattle.mb_tree.specs.declared.parts.PartTree.{PartTree}
use Rattle.mb_tree.specs.View.{part_of}

-- children are the same where they are so as parts
pub same_children : (ts us : List RowTree) → open_parts ts ≡ open_parts us → ts ≡ us
same_children [] [] e = refl
same_children [] (u ∷ us) e = absurd (cc)
same_children (t ∷ ts) [] e = absurd (cc)
same_children (t ∷ ts) (u ∷ us) e =
    let first : t ≡ u = cc in
    let rest : open_parts ts ≡ open_parts us = cc in
    let others : ts ≡ us = same_children ts us rest in cc

pub same_at : (ps qs : List PartTree) (i : ℕ) (p q : PartTree)
    → i < length ps → p ≡ get_or ps i p → i < length qs → q ≡ get_or qs i q
    → map part_of ps ≡ map part_of qs → part_of p ≡ part_of q
same_at [] qs i p q lp p_is lq q_is e = absurd (omega arith)
same_at (x ∷ ps) [] i p q lp p_is lq q_is e = absurd (omega arith)
same_at (x ∷ ps) (y ∷ qs) zero p q lp p_is lq q_is e =
    let here : part_of x ≡ part_of y = cc in ap part_of p_is ∙ here ∙ sym (ap part_of q_is)
same_at (x ∷ ps) (y ∷ qs) (suc i) p q lp p_is lq q_is e =
    let rest : map part_of ps ≡ map part_of qs = cc in
    same_at ps qs i p q (omega arith) p_is (omega arith) q_is rest
