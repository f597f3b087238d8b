-- What a check stands for, step by step, and what comes of it at the end.
use Rattle.std.proofs.Common.{◌≡◌, ℕ, ◌+◌, ◌<◌, ◌≤◌, ◌^◌, ◌-◌, IfOk, Bool, true, false, if◌then◌else◌, arith, List, [], ◌++◌, length, Option, Some, None, Result, Ok, Err, refl, sym, ap, subst, ◌∙◌, ◌⊎◌, inl, inr, append_assoc, append-nil}
use Rattle.std.specs.Prelude.{IsErr, OnErr, OnOk, is_some, nat_lt}
use Rattle.std.specs.declared.alloc.AllocError.{AllocError}
use Rattle.std.proofs.lemmas.Bool.{false≢true, ltb-true, ltb-false}
use Rattle.row_bytes.specs.Fields.{◌>>=◌, whole, word_at}
use Rattle.row_bytes.specs.Reading.{bytes_at}
use Rattle.vo_spec.specs.declared.checks.Answer.{Answer}
use Rattle.vo_spec.specs.declared.checks.CheckFault.{CheckFault}
use Rattle.vo_spec.specs.declared.checks.CheckFault.TheVariants.{BadForm, Memory, TooLong}
use Rattle.vo_spec.specs.declared.queries.QueryText.{QueryText}
use Rattle.vo_spec.specs.Bytes.{IsBytes}
use Rattle.vo_spec.specs.Checks.{CheckOf, answer_to}
use Rattle.vo_spec.specs.Conditions.{Query}
use Rattle.vo_spec.specs.Replies.{IsNoReply, IsReply, Reply, max_reply}
use Rattle.tree_stream.specs.declared.target.Target.{Target}
use Rattle.reply_stream.specs.declared.trees_stream.TreesStream.{TreesStream}
use Rattle.reply_stream.specs.declared.trees_summary.TreesSummary.{TreesSummary}
use Rattle.reply_stream.specs.Heads.{front_at, head_at}
use Rattle.reply_stream.specs.Lengths.{count_up_to_most, excess}
use Rattle.reply_stream.specs.ReplyHeads.{ReplyHead}
use Rattle.reply_stream.specs.ReplyParts.{Parts, parts_of, reply_parts}
use Rattle.reply_stream.specs.ReplyTrees.{trees_at, HasNeededByte}
use Rattle.reply_stream.specs.TreesStreams.{trees_summary_of, IsBehind as IsBehindHead}
use Rattle.reply_stream.specs.declared.head_stream.HeadStream.{HeadStream}
use Rattle.reply_stream.specs.HeadFronts.{IsHeadFront}
use Rattle.reply_stream.specs.HeadStreams.{head_of, IsBehind}
use Rattle.reply_stream.proofs.HeadFronts.{front_or_settled}
use Rattle.reply_stream.proofs.HeadPieces.{settled}
use Rattle.reply_stream.proofs.PartLaws.{parts_again, parts_found}
use Rattle.tree_stream.proofs.AllBytes.{IsBytes-append}
use Rattle.held_replies.specs.Accepting.{IsSignedReply}
use Rattle.held_replies.proofs.AcceptedRecords.{accepted}
use Rattle.vo_check.specs.Streamed.{plan_for}
use Rattle.vo_check.specs.Checkings.{CheckingModel, ReadsTrees, WantsRow, no_bytes_of, with_piece, without_memory}

not_none : {A : Type 0} {x : A} → Some x ≡ None → ⊥
not_none e = absurd cc

module _ (q : Query) (head : ReplyHead) where
  -- a head with these bytes behind it, of which the trees are read so
  pub begun : (trees : TreesStream) (bytes left : List ℕ) → ((more : List ℕ) → head_at (bytes ++ more) ≡ Some (head, left ++ more))
      → ((more : List ℕ) → trees_summary_of trees more ≡ whole (trees_at (plan_for q head) (left ++ more))) → IsBehindHead (plan_for q head) trees left → ReadsTrees q head trees bytes
  begun trees bytes left head_is trees_are trees_behind = record { behind = left; head_is = head_is; trees_are = trees_are; trees_behind = trees_behind }

  -- a piece more
  pub fed : (old new : TreesStream) (bytes piece : List ℕ) → ReadsTrees q head old bytes → ((more : List ℕ) → trees_summary_of new more ≡ trees_summary_of old (piece ++ more))
      → ((target : Target) (behind : List ℕ) → IsBehindHead target old behind → IsBehindHead target new (behind ++ piece)) → ReadsTrees q head new (bytes ++ piece)
  fed old new bytes piece reads ok moved = record {
    behind = reads.behind ++ piece;
    head_is = λ more.
        ap head_at (append_assoc bytes piece more)
        ∙ reads.head_is (piece ++ more)
        ∙ ap (λ (left : List ℕ). let found : Option (ReplyHead × List ℕ) = Some (head, left) in found) (sym (append_assoc reads.behind piece more));
    trees_are = λ more.
        ok more
        ∙ reads.trees_are (piece ++ more)
        ∙ ap (λ (left : List ℕ). whole (trees_at (plan_for q head) left)) (sym (append_assoc reads.behind piece more));
    trees_behind = moved (plan_for q head) reads.behind reads.trees_behind;
  }

  module _ (trees : TreesStream) (bytes : List ℕ) (reads : ReadsTrees q head trees bytes) where
    pub wants_row : (piece : List ℕ) → ((target : Target) (behind : List ℕ) → IsBehindHead target trees behind → HasNeededByte target.interval behind piece) → WantsRow q bytes piece
    wants_row piece memory = record {
      head = head;
      behind = reads.behind;
      head_is = ap head_at (sym (append-nil bytes))
          ∙ reads.head_is []
          ∙ ap (λ (left : List ℕ). let found : Option (ReplyHead × List ℕ) = Some (head, left) in found) (append-nil reads.behind);
      needed = memory (plan_for q head) reads.behind reads.trees_behind;
    }

    abbrev pub with_head : Option TreesSummary → Option Parts
    with_head found = found >>= λ summary. let parts : Option Parts = Some (head, summary) in parts

    -- what comes of the bytes and of more of them
    pub parts_with : (more : List ℕ) → reply_parts (plan_for q) (bytes ++ more) ≡ with_head (trees_summary_of trees more)
    unfolding reply_parts
    parts_with more =
        ap (λ (o : Option (ReplyHead × List ℕ)). o >>= λ h. whole (trees_at (plan_for q h.0) h.1) >>= λ summary. let parts : Option Parts = Some (h.0, summary) in parts) (reads.head_is more)
        ∙ ap with_head (sym (reads.trees_are more))

    -- no trees come of bytes of which no reply comes
    pub no_trees : IsBytes bytes → ((more : List ℕ) → IsBytes more → IsNoReply (bytes ++ more)) → (more : List ℕ) → IsBytes more → trees_summary_of trees more ≡ None
    no_trees fits none more more_fit = by (trees_summary_of trees more) refl
      where
        by : (found : Option TreesSummary) → trees_summary_of trees more ≡ found → found ≡ None
        by None e = refl
        by (Some summary) e =
            let reply = parts_found (plan_for q) (bytes ++ more) (head, summary) (IsBytes-append bytes more fits more_fit) (parts_with more ∙ ap with_head e) in
            absurd (none more more_fit reply.0 reply.1)

    pub parts_at_end : reply_parts (plan_for q) bytes ≡ with_head (trees_summary_of trees [])
    parts_at_end = ap (reply_parts (plan_for q)) (sym (append-nil bytes)) ∙ parts_with []

    -- Once the last byte came: a reply, with its head and what was found in its trees, or none.

    pub ended : (summary : TreesSummary) → Some summary ≡ trees_summary_of trees [] → IsBytes bytes → (r : Reply) × IsReply bytes r × (parts_of (plan_for q) r ≡ (head, summary))
    ended summary is fits =
        let found = parts_found (plan_for q) bytes (head, summary) fits (parts_at_end ∙ ap with_head (sym is)) in
        (found.0, found.1, sym found.2)

    pub none_ended : None ≡ trees_summary_of trees [] → IsNoReply bytes
    none_ended is r reply = not_none (sym (parts_again (plan_for q) bytes r reply) ∙ parts_at_end ∙ ap with_head (sym is))

-- no bytes are no head
pub empty_head : head_at [] ≡ None
unfolding head_at front_at word_at bytes_at
empty_head = refl

-- a head that isn't whole
pub no_head : (plan : ReplyHead → Target) (bytes : List ℕ) → head_at bytes ≡ None → IsNoReply bytes
unfolding reply_parts
no_head plan bytes none r reply = not_none (sym (parts_again plan bytes r reply) ∙ ap (λ (o : Option (ReplyHead × List ℕ)). o >>= λ h. whole (trees_at (plan h.0) h.1) >>= λ summary. let parts : Option Parts = Some (h.0, summary) in parts) none)

-- A head that a piece ended: what came before the piece is the front of it.
pub front_of_found : (old new : HeadStream) (piece left bytes : List ℕ) (found : ReplyHead) → IsBehind old bytes → head_of old [] ≡ None → ((more : List ℕ) → head_of new (left ++ more) ≡ head_of old (piece ++ more))
    → ((more : List ℕ) → head_of new more ≡ Some (found, more)) → IsHeadFront bytes
unfolding head_of
front_of_found old new piece left bytes found behind none fed is =
    elim (front_or_settled old bytes behind) [
      | inl front ↦ front
      | inr settled_state ↦
          elim (settled old.state old.held.items settled_state (old.kept settled_state)) [
            | inl nowhere ↦ absurd (not_none (sym (is (left ++ [])) ∙ fed [] ∙ nowhere (piece ++ [])))
            | inr other ↦ absurd (not_none (sym (other.1 []) ∙ none))
          ]
    ]

-- Answers.

module _ (key : List ℕ) (least : ℕ) (q : Query) (bytes : List ℕ) (short : length bytes ≤ max_reply) where
  pub no_reply : IsNoReply bytes → CheckOf key least q bytes (Err BadForm)
  unfolding CheckOf
  no_reply none = inr (inl (short, none, refl))

  pub answered_reply : (r : Reply) → IsReply bytes r → (result : Result Answer CheckFault) → (result ≡ Err Memory) ⊎ (result ≡ answer_to key least q r)
      → (result ≡ Err Memory) ⊎ CheckOf key least q bytes result
  unfolding CheckOf
  answered_reply r reply result (inl memory) = inl memory
  answered_reply r reply result (inr e) = inr (inr (inr (short, r, reply, e)))

-- what holds of a state that was fed
pub unless_out_of_memory : {A : Type 0} (fed : Result (Unit {0}) AllocError) (result : Result A AllocError) (state : A) (P : A → Type 0) → OnOk fed (result ≡ Ok state) → OnErr fed (IsErr result)
    → (H : Type 0) → OnOk fed H → (H → P state) → IfOk result P
unless_out_of_memory {A = A} (Ok done) result state P ok err H h holds = subst (λ (r : Result A AllocError). IfOk r P) (sym ok) (holds h)
unless_out_of_memory (Err error) (Ok value) state P ok err H h holds = absurd cc
unless_out_of_memory (Err error) (Err other) state P ok err H h holds = tt

pub both : {A E : Type 0} (r : Result A E) (P Q : Type 0) → OnOk r P → OnOk r Q → OnOk r (P × Q)
both (Ok done) P Q p q = (p, q)
both (Err e) P Q p q = tt

-- All bytes that came in one piece, whether or not memory was found for it.
pub fed_whole : (o : Result (Unit {0}) AllocError) (old new : CheckingModel) (query : QueryText) (piece : List ℕ) → old ≡ no_bytes_of query → OnOk o (new ≡ with_piece old piece)
    → OnErr o (new ≡ without_memory old piece) → (new.query ≡ query) × (new.bytes ≡ piece)
fed_whole (Ok done) old new query piece begun ok err =
    let is : new ≡ with_piece (no_bytes_of query) piece = ok ∙ ap (λ (m : CheckingModel). with_piece m piece) begun in
    (ap (λ (m : CheckingModel). m.query) is, ap (λ (m : CheckingModel). m.bytes) is)
fed_whole (Err error) old new query piece begun ok err =
    let is : new ≡ without_memory (no_bytes_of query) piece = err ∙ ap (λ (m : CheckingModel). without_memory m piece) begun in
    (ap (λ (m : CheckingModel). m.query) is, ap (λ (m : CheckingModel). m.bytes) is)

-- A count over the limit.

counted_whole : (n count : ℕ) → n < 2 ^ 64 → count ≡ count_up_to_most n → count ≡ n
counted_whole n count few is = omega (arith, is)

over : (b : Bool) (n length : ℕ) → nat_lt max_reply n ≡ b → Some length ≡ (if b then Some n else None) → (max_reply < n) × (length ≡ n)
over true n length e is = (ltb-true max_reply n e, cc)
over false n length e is = absurd cc

pub too_long : (key : List ℕ) (least : ℕ) (q : Query) (bytes : List ℕ) → length bytes < 2 ^ 64 → (count : ℕ) → count ≡ count_up_to_most (length bytes)
    → (n : ℕ) → Some n ≡ excess count → (fault : CheckFault) → (fault ≡ Memory) ⊎ (fault ≡ TooLong n)
    → (let r : Result Answer CheckFault = Err fault in r ≡ Err Memory) ⊎ CheckOf key least q bytes (Err fault)
unfolding CheckOf
too_long key least q bytes few count counted n is fault (inl memory) = inl (ap Err memory)
too_long key least q bytes few count counted n is fault (inr e) =
    let same = counted_whole (length bytes) count few counted in
    let found = over (nat_lt max_reply count) count n refl is in
    inr (inl (subst (λ (m : ℕ). max_reply < m) same found.0, ap Err e ∙ ap (λ (m : ℕ). Err (TooLong m)) (found.1 ∙ same)))

pub counted_most : (bytes : List ℕ) → 2 ^ 64 ≤ length bytes → count_up_to_most (length bytes) ≡ 2 ^ 64 - 1
counted_most bytes many = omega (arith, many)

pub not_over : (count piece old new : ℕ) → old ≡ count_up_to_most count → new ≡ count_up_to_most (old + piece) → is_some (excess new) ≡ false → count + piece ≤ max_reply
not_over count piece old new counted added none = by (nat_lt max_reply new) refl
  where
    by : (b : Bool) → nat_lt max_reply new ≡ b → count + piece ≤ max_reply
    by true e = absurd (false≢true (sym (ap (λ (b : Bool). is_some (if b then Some new else None)) (sym e) ∙ none)))
    by false e = omega (arith, ltb-false max_reply new e, counted, added)

-- What is accepted is signed.

unless_refused : (P : Answer → Type 0) (result : Result Answer CheckFault) (fault : CheckFault) → result ≡ Err fault → IfOk result P
unless_refused P (Ok answer) fault e = absurd cc
unless_refused P (Err other) fault e = tt

module _ (key : List ℕ) (least : ℕ) (q : Query) (bytes : List ℕ) (result : Result Answer CheckFault) where
  abbrev Signed : Type 0
  Signed = IfOk result (λ answer. IsSignedReply key least bytes answer.version)

  pub accepted_either : (length bytes < 2 ^ 64 → (result ≡ Err Memory) ⊎ CheckOf key least q bytes result)
      → (2 ^ 64 ≤ length bytes → (result ≡ Err Memory) ⊎ (result ≡ Err (TooLong (2 ^ 64 - 1)))) → Signed
  accepted_either answers beyond = by (nat_lt (length bytes) (2 ^ 64)) refl
    where
      by : (b : Bool) → nat_lt (length bytes) (2 ^ 64) ≡ b → Signed
      by true e = accepted key least q bytes result (answers (ltb-true (length bytes) (2 ^ 64) e))
      by false e = refused (beyond (ltb-false (length bytes) (2 ^ 64) e))
        where
          refused : (result ≡ Err Memory) ⊎ (result ≡ Err (TooLong (2 ^ 64 - 1))) → Signed
          refused (inl memory) = unless_refused (λ answer. IsSignedReply key least bytes answer.version) result Memory memory
          refused (inr long) = unless_refused (λ answer. IsSignedReply key least bytes answer.version) result (TooLong (2 ^ 64 - 1)) long
