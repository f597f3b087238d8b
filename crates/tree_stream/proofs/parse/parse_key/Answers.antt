use Rattle.std.proofs.Common.{◌≡◌, ℕ, ◌≤◌, List, length, take, sym, ap, subst, ◌∙◌, arith}
use Rattle.std.specs.Int.{w16, from_be_bytes}
use Rattle.vo_spec.specs.Bytes.{u16_of, string}
use Rattle.vo_spec.specs.Tables.{max_key}
use Rattle.tree_stream.proofs.WholeTokens.{string_long, key_token, no_key_token}
use Rattle.tree_stream.proofs.parse.parse_key.Goals as goal

pub returns-in-None : goal.returns-in-None
returns-in-None c = absurd (omega (arith, string_long max_key c.args.token.now c.requires, c.in-None.ensures.cases))

pub returns-then-from_be_bytes-le-MAX_KEY : goal.returns-then-from_be_bytes-le-MAX_KEY
unfolding u16_of
returns-then-from_be_bytes-le-MAX_KEY c =
    let count : c.from_be_bytes.result ≡ u16_of (take 2 c.args.token.now) = c.from_be_bytes.ensures ∙ ap (from_be_bytes w16) c.in-Some.ensures.cases.0 in
    let few : u16_of (take 2 c.args.token.now) ≤ max_key = omega (arith, count, c.if-from_be_bytes-le-MAX_KEY.true) in
    let P : List ℕ → Type 0 = λ key. (c.args.token.now ≡ string key) × (length key ≤ max_key) in
    subst P (sym c.in-Some.ensures.cases.1) (key_token c.args.token.now (λ i. omega (arith, c.type_inv.token i)) c.requires few)

pub returns-else-from_be_bytes-le-MAX_KEY : goal.returns-else-from_be_bytes-le-MAX_KEY
unfolding u16_of
returns-else-from_be_bytes-le-MAX_KEY c =
    let count : c.from_be_bytes.result ≡ u16_of (take 2 c.args.token.now) = c.from_be_bytes.ensures ∙ ap (from_be_bytes w16) c.in-Some.ensures.cases.0 in
    λ rest. no_key_token c.args.token.now rest c.requires (omega (arith, count, c.if-from_be_bytes-le-MAX_KEY.false))
