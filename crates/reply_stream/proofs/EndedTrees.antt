-- Where a tree has ended, it takes no more bytes.
use Rattle.std.proofs.Common.{◌≡◌, ℕ, false, List, [], ◌++◌, Option, Some, None, refl, sym, ap, ◌∙◌, inl, inr}
use Rattle.std.specs.Prelude.{option_map}
use Rattle.std.proofs.lemmas.Bool.{cases_Bool}
use Rattle.batch_format.proofs.ReaderLaws.{some_is}
use Rattle.tree_stream.specs.declared.findings.Summary.{Summary}
use Rattle.tree_stream.specs.declared.state.State.{State}
use Rattle.tree_stream.specs.declared.state.State.TheVariants.{Node, Separator, Key, Row, Cell, Complete, Invalid}
use Rattle.tree_stream.specs.declared.stream.TreeStream.{TreeStream}
use Rattle.tree_stream.specs.Machines.{summary_of_machine}
use Rattle.tree_stream.specs.Streams.{summary_of}
use Rattle.tree_stream.specs.Summaries.{complete_digest, is_settled}
use Rattle.tree_stream.proofs.ShortLaws.{settled_is, end_none}

abbrev pub summary_in : Summary × List ℕ → Summary
summary_in end = end.0

pub some_none : {A : Type 0} (x : A) → Some x ≡ None → ⊥
some_none x e = cc

not_complete : (state : State) → is_settled state ≡ false → complete_digest state ≡ None
not_complete (Node visited) going = refl
not_complete (Separator head) going = refl
not_complete (Key leaf) going = refl
not_complete (Row leaf) going = refl
not_complete (Cell row) going = refl
not_complete (Complete digest) going = absurd cc
not_complete Invalid going = absurd cc

pub ended : (stream : TreeStream) (s : Summary) → Some s ≡ option_map summary_in (summary_of stream []) → (more : List ℕ) → summary_of stream more ≡ Some (s, more)
unfolding summary_of
ended stream s e more =
    elim (cases_Bool (is_settled stream.machine.state)) [
      | inl settled ↦
          let none_held : stream.partial.items ≡ [] = stream.kept settled in
          let at_machine : Some s ≡ option_map summary_in (summary_of_machine stream.machine []) =
          e ∙ ap (λ (held : List ℕ). option_map summary_in (summary_of_machine stream.machine (held ++ []))) none_held in
          elim (settled_is stream.machine.context stream.machine.state settled) [
            | inl nowhere ↦ absurd (some_none s (at_machine ∙ ap (option_map summary_in) (nowhere [])))
            | inr found ↦
                let is : s ≡ found.0 = some_is s found.0 (at_machine ∙ ap (option_map summary_in) (found.1 [])) in
                ap (λ (held : List ℕ). summary_of_machine stream.machine (held ++ more)) none_held
                ∙ found.1 more
                ∙ ap (λ (t : Summary). Some (t, more)) (sym is)
          ]
      | inr going ↦
          absurd (some_none s (e ∙ sym (end_none stream.machine.context stream.machine.state stream.partial.items (not_complete stream.machine.state going) stream.short)))
    ]

unmapped : {A B : Type 0} (f : A → B) (o : Option A) → None ≡ option_map f o → o ≡ None
unmapped f None e = refl
unmapped f (Some x) e = absurd (some_none (f x) (sym e))

pub not_ended : (stream : TreeStream) → None ≡ option_map summary_in (summary_of stream []) → summary_of stream [] ≡ None
not_ended stream e = unmapped summary_in (summary_of stream []) e
