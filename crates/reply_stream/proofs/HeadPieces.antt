-- Pieces of a head: bytes that are held, and fields that are taken of them.
use Rattle.std.proofs.Common.{◌≡◌, ℕ, ◌≤◌, List, [], ◌++◌, length, Option, Some, None, Result, Ok, Err, refl, sym, ap, subst, ◌∙◌, append_assoc, append-nil, arith, inl, inr, ◌⊎◌}
use Rattle.std.specs.Prelude.{IfOk, OnErr}
use Rattle.std.specs.Borrow.{Bor}
use Rattle.std.specs.declared.alloc.AllocError.{AllocError}
use Rattle.batch_format.proofs.ReaderLaws.{some_is}
use Rattle.reply_stream.specs.ReplyHeads.{ReplyHead}
use Rattle.reply_stream.specs.declared.head_state.HeadState.{HeadState}
use Rattle.reply_stream.specs.declared.head_state.HeadState.TheVariants.{Front, SignatureLength, Signature, CatalogLength, Catalog, Complete, Invalid}
use Rattle.reply_stream.specs.declared.head_stream.HeadStream.{HeadStream}
use Rattle.reply_stream.specs.Heads.{rest_of_head}
use Rattle.reply_stream.specs.HeadFields.{field_size, FitField}
use Rattle.reply_stream.specs.HeadStreams.{head_of}
use Rattle.reply_stream.proofs.HeadLaws.{short_none}

-- Sizes.

none_some : {A : Type 0} (x : A) → None ≡ Some x → ⊥
none_some x e = cc

pub within : (o : Option ℕ) (held : List ℕ) (size : ℕ) → o ≡ Some size → FitField o held → length held ≤ size
within o held size is fits = subst (λ (p : Option ℕ). FitField p held) is fits

pub none_held : (o : Option ℕ) (held : List ℕ) → o ≡ None → FitField o held → held ≡ []
none_held o held is fits = subst (λ (p : Option ℕ). FitField p held) is fits

pub fit_none : (o : Option ℕ) (held : List ℕ) → held ≡ [] → FitField o held
fit_none (Some size) held none = omega (arith, ap (λ (t : List ℕ). length t) none)
fit_none None held none = none

pub one_size : (o : Option ℕ) (n m : ℕ) → o ≡ Some n → o ≡ Some m → n ≡ m
one_size o n m is other = some_is n m (sym is ∙ other)

pub no_size : {A : Type 0} (o : Option ℕ) (size : ℕ) → o ≡ None → o ≡ Some size → A
no_size o size none some = absurd (none_some size (sym none ∙ some))

-- What comes of pieces.

pub more_held : (state : HeadState) (held piece all more : List ℕ) → all ≡ held ++ piece → rest_of_head state (all ++ ([] ++ more)) ≡ rest_of_head state (held ++ (piece ++ more))
more_held state held piece all more is =
    ap (λ (t : List ℕ). rest_of_head state (t ++ more)) is ∙ ap (rest_of_head state) (append_assoc held piece more)

pub went_on : (r : Result (Bor (List ℕ)) AllocError) (old mid new : HeadState) (held front behind piece none kept : List ℕ) → none ≡ [] → piece ≡ front ++ behind
    → ((rest : List ℕ) → rest_of_head mid rest ≡ rest_of_head old ((held ++ front) ++ rest))
    → IfOk r (λ left. (more : List ℕ) → rest_of_head new (kept ++ (left.now ++ more)) ≡ rest_of_head mid (none ++ (behind ++ more)))
    → IfOk r (λ left. (more : List ℕ) → rest_of_head new (kept ++ (left.now ++ more)) ≡ rest_of_head old (held ++ (piece ++ more)))
went_on (Err e) old mid new held front behind piece none kept is parts taken on = tt
went_on (Ok left) old mid new held front behind piece none kept is parts taken on = λ more.
    on more
    ∙ ap (λ (t : List ℕ). rest_of_head mid (t ++ (behind ++ more))) is
    ∙ taken (behind ++ more)
    ∙ ap (rest_of_head old)
    (append_assoc held front (behind ++ more)
    ∙ ap (λ (t : List ℕ). held ++ t) (sym (append_assoc front behind more) ∙ ap (λ (t : List ℕ). t ++ more) (sym parts)))

-- The stream.

pub settled : (state : HeadState) (held : List ℕ) → field_size state ≡ None → held ≡ []
    → ((more : List ℕ) → rest_of_head state (held ++ more) ≡ None) ⊎ ((found : ReplyHead) × ((more : List ℕ) → rest_of_head state (held ++ more) ≡ Some (found, more)))
unfolding rest_of_head
settled Front held none kept = absurd cc
settled (SignatureLength rec) held none kept = absurd cc
settled (Signature field) held none kept = absurd cc
settled (CatalogLength signed) held none kept = absurd cc
settled (Catalog field) held none kept = absurd cc
settled (Complete found) held none kept = inr (found, λ more. ap (λ (t : List ℕ). rest_of_head (Complete found) (t ++ more)) kept)
settled Invalid held none kept = inl (λ more. refl)

pub all_or_settled : (r : Result (Bor (List ℕ)) AllocError) (state : HeadState) (held : List ℕ) → (field_size state ≡ None → held ≡ []) → IfOk r (λ left. (left.now ≡ []) ⊎ (field_size state ≡ None))
    → IfOk r (λ left. (left.now ≡ []) ⊎ (((more : List ℕ) → rest_of_head state (held ++ more) ≡ None) ⊎ ((found : ReplyHead) × ((more : List ℕ) → rest_of_head state (held ++ more) ≡ Some (found, more)))))
all_or_settled (Err e) state held kept all = tt
all_or_settled (Ok left) state held kept (inl none) = inl none
all_or_settled (Ok left) state held kept (inr none) = inr (settled state held none (kept none))

pub nothing_after : (r : Result (Bor (List ℕ)) AllocError) (state : HeadState) (held : List ℕ) → OnErr r (state ≡ Invalid) → OnErr r ((more : List ℕ) → rest_of_head state (held ++ more) ≡ None)
unfolding rest_of_head
nothing_after (Ok left) state held is = tt
nothing_after (Err e) state held is = λ more. ap (λ (s : HeadState). rest_of_head s (held ++ more)) is

pub end_short : (stream : HeadStream) (size : ℕ) → field_size stream.state ≡ Some size → head_of stream [] ≡ None
unfolding head_of
end_short stream size is =
    ap (rest_of_head stream.state) (append-nil stream.held.items) ∙ short_none stream.state stream.held.items size is (stream.short size is)

pub end_complete : (stream : HeadStream) (found : ReplyHead) → stream.state ≡ Complete found → (more : List ℕ) → head_of stream more ≡ Some (found, more)
unfolding head_of rest_of_head
end_complete stream found is more =
    ap (λ (s : HeadState). rest_of_head s (stream.held.items ++ more)) is
    ∙ ap (λ (held : List ℕ). rest_of_head (Complete found) (held ++ more)) (stream.kept (ap field_size is))

pub end_invalid : (stream : HeadStream) → stream.state ≡ Invalid → head_of stream [] ≡ None
unfolding head_of rest_of_head
end_invalid stream is = ap (λ (s : HeadState). rest_of_head s (stream.held.items ++ [])) is
