-- Bytes are one list of proofs at most.
use Rattle.std.proofs.Common.{◌≡◌, ℕ, List, Some, Result, inl, inr, sym, ap, ◌∙◌}
use Rattle.vo_spec.specs.declared.tables.Command.{Command}
use Rattle.vo_spec.specs.Trees.{RowTree}
use Rattle.vo_spec.specs.Replies.{AreProofs}
use Rattle.vo_format.proofs.BatchProofLaws.{whole_proofs}
use Rattle.owner_roots.specs.declared.owner_fault.OwnerFault.{OwnerFault}
use Rattle.owner_roots.specs.declared.roots.Roots.{Roots}
use Rattle.owner_roots.specs.Next.{NextOf, next_roots}

pub one_list : (bytes : List ℕ) (ps qs : List RowTree) → AreProofs bytes ps → AreProofs bytes qs → ps ≡ qs
one_list bytes ps qs first second =
    let same : Some ps ≡ Some qs = sym (whole_proofs bytes ps first) ∙ whole_proofs bytes qs second in
    cc

pub one_answer : (roots : Roots) (commands : List Command) (bytes : List ℕ) (a b : Result Roots OwnerFault) → NextOf roots commands bytes a → NextOf roots commands bytes b → a ≡ b
unfolding NextOf
one_answer roots commands bytes a b (inl none) (inl other) = none.1 ∙ sym other.1
one_answer roots commands bytes a b (inl none) (inr read) = absurd (none.0 read.0 read.1)
one_answer roots commands bytes a b (inr read) (inl none) = absurd (none.0 read.0 read.1)
one_answer roots commands bytes a b (inr read) (inr other) =
    read.2 ∙ ap (next_roots roots commands) (one_list bytes read.0 other.0 read.1 other.1) ∙ sym other.2
