-- How many bytes a check holds, by those that came.
use Rattle.std.proofs.Common.{◌≡◌, ℕ, ◌+◌, ◌≤◌, List, [], ◌++◌, length, Option, Some, None, refl, sym, ap, ◌∙◌, ◌⊎◌, inl, inr, append-nil, arith}
use Rattle.vo_spec.specs.Conditions.{Query}
use Rattle.vo_spec.specs.Replies.{max_reply}
use Rattle.reply_stream.specs.declared.head_stream.HeadStream.{HeadStream}
use Rattle.reply_stream.specs.Heads.{head_at}
use Rattle.reply_stream.specs.HeadStreams.{head_of}
use Rattle.reply_stream.specs.ReplyHeads.{ReplyHead, head_size}
use Rattle.reply_stream.specs.ReplyTrees.{HasNeededAndToken, trees_at}
use Rattle.reply_stream.specs.ReplyParts.{reply_parts}
use Rattle.reply_stream.specs.declared.trees_summary.TreesSummary.{TreesSummary}
use Rattle.reply_stream.specs.TreesStreams.{trees_summary_of}
use Rattle.reply_stream.proofs.KeptRows.{no_bytes_needed}
use Rattle.tree_stream.specs.declared.target.Target.{Target}
use Rattle.row_bytes.specs.Fields.{◌>>=◌, whole}
use Rattle.vo_check.specs.declared.progress.OpenReply.{OpenReply}
use Rattle.vo_check.specs.declared.progress.Progress.{Progress}
use Rattle.vo_check.specs.declared.progress.Progress.TheVariants.{Head, Trees, Buffered, TooLong, OutOfMemory}
use Rattle.vo_check.proofs.CheckingLaws.{parts_at_end}
use Rattle.vo_check.specs.Streamed.{plan_for}
use Rattle.vo_check.specs.Streaming.{IsBuffered, IsStreamed}
use Rattle.vo_check.specs.Checkings.{HasHead, HoldsNeeded, ReadsTrees, StaysWithin}

pub within_any : (progress : Progress) (bytes : List ℕ) → length bytes ≤ max_reply → StaysWithin progress bytes
within_any (Head stream) bytes le = le
within_any (Trees reply) bytes le = le
within_any (Buffered held) bytes le = le
within_any TooLong bytes le = tt
within_any OutOfMemory bytes le = tt

some_none : {A : Type 0} (x : A) → Some x ≡ None → ⊥
some_none x e = cc

pub not_both : (q : Query) → IsStreamed q → IsBuffered q → ⊥
not_both q streamed kept = kept streamed

-- nothing is held
pub holds_none : (q : Query) (bytes : List ℕ) (count : ℕ) → count ≡ 0 → HasHead bytes → HoldsNeeded q bytes count
holds_none q bytes count none has = record {
  head = has.0;
  behind = has.1;
  needed = 0;
  head_is = has.2;
  has_needed = no_bytes_needed (plan_for q has.0).interval has.1;
  within = omega (arith, none);
}

pub holds_reply : (q : Query) (reply : OpenReply) (bytes : List ℕ) (count held : ℕ) → ReadsTrees q reply.head reply.trees bytes → count ≤ head_size reply.head + held
    → ((reads : ReadsTrees q reply.head reply.trees bytes) → HasNeededAndToken (plan_for q reply.head).interval reads.behind held) → HoldsNeeded q bytes count
holds_reply q reply bytes count held reads le within =
    let has = within reads in
    record {
      head = reply.head;
      behind = reads.behind;
      needed = has.needed;
      head_is = ap head_at (sym (append-nil bytes))
          ∙ reads.head_is []
          ∙ ap (λ (left : List ℕ). let found : Option (ReplyHead × List ℕ) = Some (reply.head, left) in found) (append-nil reads.behind);
      has_needed = has.has_needed;
      within = omega (arith, le, has.within);
    }

pub has_head : (q : Query) (reply : OpenReply) (bytes : List ℕ) → ReadsTrees q reply.head reply.trees bytes → HasHead bytes
has_head q reply bytes reads = (
  reply.head,
  reads.behind ++ [],
  ap head_at (sym (append-nil bytes)) ∙ reads.head_is [],
)

-- what comes before the trees isn't whole
pub no_head_yet : (stream : HeadStream) (bytes : List ℕ) → head_of stream [] ≡ None → ((more : List ℕ) → head_of stream more ≡ head_at (bytes ++ more)) → HasHead bytes → ⊥
no_head_yet stream bytes none same has =
    let found : ReplyHead × List ℕ = (has.0, has.1) in
    some_none found (sym has.2 ∙ ap head_at (sym (append-nil bytes)) ∙ sym (same []) ∙ none)

pub front_held : (stream : HeadStream) (bytes : List ℕ) (count : ℕ) → ((more : List ℕ) → head_of stream more ≡ head_at (bytes ++ more))
    → (count ≡ length bytes) ⊎ ((count ≡ 0) × ((more : List ℕ) → head_of stream more ≡ None)) → (count ≡ length bytes) ⊎ ((count ≡ 0) × ((more : List ℕ) → head_at (bytes ++ more) ≡ None))
front_held stream bytes count same (inl all) = inl all
front_held stream bytes count same (inr none) = inr (none.0, λ more. sym (same more) ∙ none.1 more)

-- A whole reply.

some_is : {A : Type 0} (x y : A) → Some x ≡ Some y → x ≡ y
some_is x y e = cc

pub none_whole : (plan : ReplyHead → Target) (bytes : List ℕ) (head : ReplyHead) (trees : TreesSummary) → head_at bytes ≡ None → reply_parts plan bytes ≡ Some (head, trees) → ⊥
unfolding reply_parts
none_whole plan bytes head trees none is =
    let lost : reply_parts plan bytes ≡ None = ap (λ (o : Option (ReplyHead × List ℕ)). o >>= λ h. whole (trees_at (plan h.0) h.1) >>= λ summary. let parts : Option (ReplyHead × TreesSummary) = Some (h.0, summary) in parts) none in
    some_none (head, trees) (sym is ∙ lost)

pub no_head_at : (stream : HeadStream) (bytes : List ℕ) → head_of stream [] ≡ None → ((more : List ℕ) → head_of stream more ≡ head_at (bytes ++ more)) → head_at bytes ≡ None
no_head_at stream bytes none same = ap head_at (sym (append-nil bytes)) ∙ sym (same []) ∙ none

pub whole_held : (q : Query) (reply : OpenReply) (bytes : List ℕ) (head : ReplyHead) (trees : TreesSummary) → ReadsTrees q reply.head reply.trees bytes → reply_parts (plan_for q) bytes ≡ Some (head, trees)
    → (head_size head ≡ head_size reply.head) × (trees_summary_of reply.trees [] ≡ Some trees)
whole_held q reply bytes head trees reads is = by (trees_summary_of reply.trees []) refl
  where
    all : reply_parts (plan_for q) bytes ≡ (trees_summary_of reply.trees [] >>= λ summary. let parts : Option (ReplyHead × TreesSummary) = Some (reply.head, summary) in parts)
    all = parts_at_end q reply.head reply.trees bytes reads

    by : (o : Option TreesSummary) → trees_summary_of reply.trees [] ≡ o → (head_size head ≡ head_size reply.head) × (trees_summary_of reply.trees [] ≡ Some trees)
    by None none = absurd (none_is (sym is ∙ all ∙ ap (λ (o : Option TreesSummary). o >>= λ summary. let parts : Option (ReplyHead × TreesSummary) = Some (reply.head, summary) in parts) none))
      where
        none_is : (let found : Option (ReplyHead × TreesSummary) = Some (head, trees) in found ≡ None) → ⊥
        none_is e = cc
    by (Some t) some =
        let both : (let a : ReplyHead × TreesSummary = (head, trees) in let b : ReplyHead × TreesSummary = (reply.head, t) in a ≡ b) =
        some_is (head, trees) (reply.head, t) (sym is ∙ all ∙ ap (λ (o : Option TreesSummary). o >>= λ summary. let parts : Option (ReplyHead × TreesSummary) = Some (reply.head, summary) in parts) some) in
        (ap (λ (p : ReplyHead × TreesSummary). head_size p.0) both, some ∙ ap (λ (p : ReplyHead × TreesSummary). Some p.1) (sym both))
