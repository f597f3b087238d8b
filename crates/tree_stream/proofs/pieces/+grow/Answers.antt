use Rattle.std.proofs.Common.{◌≡◌, ◌≤◌, ◌+◌, ◌++◌, length, ap, ◌∙◌, arith, inl}
use Rattle.std.proofs.lemmas.Grind.{common_steps}
use Rattle.tree_stream.specs.Tokens.{token_size}
use Rattle.tree_stream.proofs.Sizes.{token_small}
use Rattle.tree_stream.proofs.PieceLaws.{filled_whole, grows_on, ok_of}
use Rattle.tree_stream.proofs.pieces.+grow.Goals as goal

pub returns-then-is_empty-clause-grown : goal.returns-then-is_empty-clause-grown
returns-then-is_empty-clause-grown t c =
    let state = c.args.state.now in
    let partial = c.args.partial.now.items in
    let front = c.split_within.result.0.now in
    let all = c.try_extend_from_slice.new.self.items in
    let size : c.token_size.result ≡ token_size state partial = c.token_size.ensures ∙ ap (token_size state) c.as_slice.ensures.value in
    let within : length partial + length front ≤ token_size state partial = omega (arith, size, c.split_within.ensures.within, c.len.ensures.value, c.requires.short) in
    let fits : length partial + length front ≤ 1028 = omega (arith, within, token_small state partial c.requires.reading) in
    let whole : all ≡ partial ++ front = ok_of c.try_extend_from_slice.result (all ≡ partial ++ front) (c.try_extend_from_slice.ensures.variant.1 fits) c.try_extend_from_slice.ensures.ok in
    record { front = front; parts = c.split_within.ensures.parts; grown = whole }

pub returns-then-len-token_size-clause-grown : goal.returns-then-len-token_size-clause-grown
returns-then-len-token_size-clause-grown t c =
    let state = c.args.state.now in
    let partial = c.args.partial.now.items in
    let front = c.split_within.result.0.now in
    let all = c.try_extend_from_slice.new.self.items in
    let size : c.token_size.result ≡ token_size state partial = c.token_size.ensures ∙ ap (token_size state) c.as_slice.ensures.value in
    let within : length partial + length front ≤ token_size state partial = omega (arith, size, c.split_within.ensures.within, c.len.ensures.value, c.requires.short) in
    let fits : length partial + length front ≤ 1028 = omega (arith, within, token_small state partial c.requires.reading) in
    let whole : all ≡ partial ++ front = ok_of c.try_extend_from_slice.result (all ≡ partial ++ front) (c.try_extend_from_slice.ensures.variant.1 fits) c.try_extend_from_slice.ensures.ok in
    grows_on partial front all c.grow.new.partial.items c.args.piece.now c.split_within.result.1.now c.grow.result.now whole c.split_within.ensures.parts c.grow.ensures.grown

pub returns-clause-grown : goal.returns-clause-grown
returns-clause-grown t c =
    let state = c.args.state.now in
    let partial = c.args.partial.now.items in
    let front = c.split_within.result.0.now in
    let all = c.try_extend_from_slice.new.self.items in
    let size : c.token_size.result ≡ token_size state partial = c.token_size.ensures ∙ ap (token_size state) c.as_slice.ensures.value in
    let within : length partial + length front ≤ token_size state partial = omega (arith, size, c.split_within.ensures.within, c.len.ensures.value, c.requires.short) in
    let fits : length partial + length front ≤ 1028 = omega (arith, within, token_small state partial c.requires.reading) in
    let whole : all ≡ partial ++ front = ok_of c.try_extend_from_slice.result (all ≡ partial ++ front) (c.try_extend_from_slice.ensures.variant.1 fits) c.try_extend_from_slice.ensures.ok in
    record { front = front; parts = c.split_within.ensures.parts; grown = whole }

pub returns-clause-filled : goal.returns-clause-filled
returns-clause-filled t c =
    let state = c.args.state.now in
    let partial = c.args.partial.now.items in
    let front = c.split_within.result.0.now in
    let all = c.try_extend_from_slice.new.self.items in
    let size : c.token_size.result ≡ token_size state partial = c.token_size.ensures ∙ ap (token_size state) c.as_slice.ensures.value in
    let within : length partial + length front ≤ token_size state partial = omega (arith, size, c.split_within.ensures.within, c.len.ensures.value, c.requires.short) in
    let fits : length partial + length front ≤ 1028 = omega (arith, within, token_small state partial c.requires.reading) in
    let whole : all ≡ partial ++ front = ok_of c.try_extend_from_slice.result (all ≡ partial ++ front) (c.try_extend_from_slice.ensures.variant.1 fits) c.try_extend_from_slice.ensures.ok in
    let grown : c.token_size-2.result ≡ token_size state all = c.token_size-2.ensures ∙ ap (token_size state) c.as_slice-2.ensures.value in
    let le : token_size state all ≤ length all = omega (arith, grown, c.len-2.ensures.value, c.if-len-token_size.false) in
    inl (filled_whole state partial front all whole within le)

pub returns-then-is_empty-clause-filled : goal.returns-then-is_empty-clause-filled
returns-then-is_empty-clause-filled t c = grind (arith, common_steps)

pub grow-requires : goal.grow-requires
grow-requires t c = grind (arith, common_steps)
