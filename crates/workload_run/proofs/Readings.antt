-- Bytes have one reading, as an owner's journal and as a reply.
use Rattle.std.proofs.Common.{◌≡◌, ℕ, ◌+◌, List, [], ◌∷◌, ◌++◌, length, take, get_or, sym, ap, ◌∙◌, subst, inl, inr}
use Rattle.std.proofs.lemmas.Bool.Decides.{leb_tells}
use Rattle.std.proofs.lemmas.List.{take_all, take_more}
use Rattle.vo_spec.specs.declared.records.Entry.{Entry}
use Rattle.vo_spec.specs.Journals.{Begins}
use Rattle.vo_spec.specs.Owners.{IsJournalOf}
use Rattle.vo_spec.specs.Replies.{Reply, IsReply}
use Rattle.batch_format.proofs.ReaderLaws.{some_is}
use Rattle.vo_format.specs.Reading.{reply_at}
use Rattle.vo_format.proofs.ReplyLaws.{reply_again}
use Rattle.owner_roots.specs.Owners.{AreOwned, IsBadAt, IsOwned}
use Rattle.owner_roots.proofs.OwnedLaws.{owned_front}
use Rattle.owner_state.proofs.JournalLaws.{journal_stops, one_journal, only_first}
use Rattle.owner_state.proofs.SlotLaws.{begins_front}
use Rattle.round_trips.proofs.Entries.{there}

pub one_owned : (key bytes : List ℕ) (xs es : List Entry) → IsOwned key bytes xs → IsOwned key bytes es → xs ≡ es
unfolding IsOwned
one_owned key bytes xs es a b = one_journal bytes xs es a.0 b.0

-- an owner's journal is bad nowhere
pub never_bad : (key bytes : List ℕ) (es : List Entry) (index : ℕ) → IsOwned key bytes es → IsBadAt key bytes index → ⊥
unfolding IsOwned IsBadAt
never_bad key bytes es index owned bad =
    let xs : List Entry = bad.0 in
    let stops = journal_stops bytes es owned.0 in
    let first = only_first bytes es stops.0 xs stops.1 bad.1 in
    elim (leb_tells (length es) (length xs)) [
      | inl t ↦
          let same : es ≡ xs = sym (first.0 ∙ take_all (length xs) es t.1) in
          bad.4 (subst (λ (ys : List Entry). IsJournalOf (AreOwned key) bytes ys) same owned)
      | inr t ↦
          let n = length xs in
          let e : Entry = get_or es n (there es n t.1).0 in
          let more : take (n + 1) es ≡ xs ++ e ∷ [] = take_more es n (there es n t.1).0 t.1 ∙ ap (λ (ys : List Entry). ys ++ e ∷ []) (sym first.0) in
          bad.5 e
          (subst (λ (ys : List Entry). Begins bytes ys) more (begins_front bytes es (n + 1) (stops.1.0, stops.0, stops.1.1)))
          (subst (λ (ys : List Entry). AreOwned key ys) more (owned_front key (n + 1) es owned.1))
    ]

pub one_reply : (bytes : List ℕ) (a b : Reply) → IsReply bytes a → IsReply bytes b → a ≡ b
one_reply bytes a b first second =
    ap (λ (read : Reply × List ℕ). read.0) (some_is (a, []) (b, [])
    (sym (reply_again a [] first.fits)
    ∙ ap (λ (t : List ℕ). reply_at (t ++ [])) (sym first.encoded ∙ second.encoded)
    ∙ reply_again b [] second.fits))
