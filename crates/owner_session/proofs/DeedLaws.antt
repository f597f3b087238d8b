-- Deeds that are done one after the other.
use Rattle.std.proofs.Common.{◌≡◌, ℕ, List, [], ◌∷◌, ◌++◌, Option, Some, None, refl, sym, ap, ◌∙◌, append_assoc, append-nil}
use Rattle.outside.specs.Sink.{append_known}
use Rattle.link_frames.specs.Scripts.{Event, Puts, Takes, Does, behind, others}
use Rattle.owner_session.specs.SessionWork.{Judgement, Deed, Steps, Appends, Says, SessionWork}
use Rattle.owner_session.specs.Runs.{Snapshot, LeadsTo, AreJudgements, IsNext, HasWritten, lines_of, entries_of, state_after}

lines_of-append : {S B E : Type 0} (ds es : List (Deed S B E)) → lines_of (ds ++ es) ≡ lines_of ds ++ lines_of es
lines_of-append [] es = refl
lines_of-append (Steps before batch proofs judgement ∷ ds) es = lines_of-append ds es
lines_of-append (Appends entry next ∷ ds) es = lines_of-append ds es
lines_of-append (Says line ∷ ds) es =
    ap (λ (bytes : List ℕ). line ++ bytes) (lines_of-append ds es) ∙ sym (append_assoc line (lines_of ds) (lines_of es))

pub entries_of-append : {S B E : Type 0} (ds es : List (Deed S B E)) → entries_of (ds ++ es) ≡ entries_of ds ++ entries_of es
entries_of-append [] es = refl
entries_of-append (Steps before batch proofs judgement ∷ ds) es = entries_of-append ds es
entries_of-append {E = E} (Appends entry next ∷ ds) es = ap (λ (xs : List E). entry ∷ xs) (entries_of-append ds es)
entries_of-append (Says line ∷ ds) es = entries_of-append ds es

state_after-append : {S B E : Type 0} (s : S) (ds es : List (Deed S B E))
    → state_after s (ds ++ es) ≡ state_after (state_after s ds) es
state_after-append s [] es = refl
state_after-append s (Steps before batch proofs judgement ∷ ds) es = state_after-append s ds es
state_after-append s (Appends entry next ∷ ds) es = state_after-append next ds es
state_after-append s (Says line ∷ ds) es = state_after-append s ds es

pub judgements-append : {S B E : Type 0} (IsJudgement : S → B → List ℕ → Judgement S E → Type 0) (ds es : List (Deed S B E))
    → AreJudgements IsJudgement ds → AreJudgements IsJudgement es → AreJudgements IsJudgement (ds ++ es)
judgements-append IsJudgement [] es h k = k
judgements-append IsJudgement (Steps before batch proofs judgement ∷ ds) es h k = (h.0, judgements-append IsJudgement ds es h.1 k)
judgements-append IsJudgement (Appends entry next ∷ ds) es h k = judgements-append IsJudgement ds es h k
judgements-append IsJudgement (Says line ∷ ds) es h k = judgements-append IsJudgement ds es h k

pub leads-append : {S B E : Type 0} (ds es : List (Deed S B E)) (a b c : Snapshot S E) → LeadsTo ds a b → LeadsTo es b c
    → LeadsTo (ds ++ es) a c
leads-append {S} {B} {E} ds es a b c f s = record {
  state = s.state ∙ ap (λ (state : S). state_after state es) f.state ∙ sym (state_after-append a.state ds es);
  entries = s.entries ∙ ap (λ (xs : List E). xs ++ entries_of es) f.entries
      ∙ append_assoc a.entries (entries_of ds) (entries_of es)
      ∙ ap (λ (xs : List E). a.entries ++ xs) (sym (entries_of-append ds es));
}

pub leads-nothing : {S B E : Type 0} (a : Snapshot S E) → LeadsTo {B = B} [] a a
leads-nothing a = record { state = refl; entries = sym (append-nil a.entries) }

pub added-nil : (written : Option (List ℕ)) → written ≡ append_known written []
added-nil None = refl
added-nil (Some bytes) = ap (λ (b : List ℕ). Some b) (sym (append-nil bytes))

pub added-added : (written : Option (List ℕ)) (first second : List ℕ)
    → append_known (append_known written first) second ≡ append_known written (first ++ second)
added-added None first second = refl
added-added (Some bytes) first second = ap (λ (b : List ℕ). Some b) (append_assoc bytes first second)

pub wrote-append : {S B E : Type 0} (ds es : List (Deed S B E)) (besides : List ℕ) (a b c : Snapshot S E)
    → HasWritten ds [] a b → HasWritten es besides b c → HasWritten (ds ++ es) besides a c
wrote-append ds es besides a b c f s =
    s ∙ ap (λ (w : Option (List ℕ)). append_known w (lines_of es ++ besides)) f
    ∙ added-added a.written (lines_of ds ++ []) (lines_of es ++ besides)
    ∙ ap (append_known a.written)
    (ap (λ (x : List ℕ). x ++ (lines_of es ++ besides)) (append-nil (lines_of ds))
    ∙ sym (append_assoc (lines_of ds) (lines_of es) besides)
    ∙ ap (λ (x : List ℕ). x ++ besides) (sym (lines_of-append ds es)))

others-append : {X : Type 0} (es fs : List (Event X)) → others (es ++ fs) ≡ others es ++ others fs
others-append [] fs = refl
others-append (Puts frame ∷ es) fs = others-append es fs
others-append (Takes count ∷ es) fs = others-append es fs
others-append {X} (Does x ∷ es) fs = ap (λ (xs : List X). x ∷ xs) (others-append es fs)

-- the deed that is next in the rest of some work is next in the whole of it
pub next-behind : {S B E : Type 0} (deed : Deed S B E) (events : List (Event (Deed S B E))) (ds es : List (Deed S B E))
    (work : SessionWork S B E) → ds ≡ others events → IsNext deed es work → IsNext deed (ds ++ es) (behind events work)
next-behind {S} {B} {E} deed events ds es work are h = (
  h.0,
  others-append events work.events
      ∙ ap (λ (xs : List (Deed S B E)). xs ++ others work.events) (sym are)
      ∙ ap (λ (xs : List (Deed S B E)). ds ++ xs) h.1
      ∙ sym (append_assoc ds es (deed ∷ h.0)),
)
