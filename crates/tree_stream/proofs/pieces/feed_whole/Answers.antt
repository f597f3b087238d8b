use Rattle.std.proofs.Common.{List, ℕ, [], ◌≡◌, ◌≤◌, ◌<◌, ◌+◌, ◌++◌, length, subst, sym, ap, ◌∙◌, append-nil, arith}
use Rattle.tree_stream.specs.Machines.{Advances}
use Rattle.tree_stream.specs.Tokens.{token_size}
use Rattle.tree_stream.proofs.Sizes.{token_small}
use Rattle.tree_stream.proofs.PieceLaws.{ok_of, empty_short}
use Rattle.tree_stream.proofs.pieces.feed_whole.Goals as goal

pub returns-in_err-behind-clause-short : goal.returns-in_err-behind-clause-short
returns-in_err-behind-clause-short c = empty_short _ c.args.partial.now.items c.requires

pub returns-then-is_settled-clause-ok : goal.returns-then-is_settled-clause-ok
returns-then-is_settled-clause-ok c =
    let P : List ℕ → Type 0 = λ kept. Advances c.args.machine.now c.take_all.new.machine c.args.bytes.now (kept ++ c.in_ok-behind.behind.now) in
    subst P (sym c.requires) c.in_ok-behind.ensures.ok

pub returns-then-is_settled-clause-short : goal.returns-then-is_settled-clause-short
returns-then-is_settled-clause-short c = empty_short _ c.args.partial.now.items c.requires

pub returns-clause-ok : goal.returns-clause-ok
returns-clause-ok c =
    let state = c.take_all.new.machine.state in
    let left = c.in_ok-behind.behind.now in
    let items = c.try_extend_from_slice.new.self.items in
    let small = token_small state left (sym c.is_settled.ensures ∙ c.if-is_settled.false) in
    let fits : length c.args.partial.now.items + length left ≤ 1028 = omega (arith, small, c.in_ok-behind.ensures.short, ap (λ (t : List ℕ). length t) c.requires) in
    let kept : items ≡ c.args.partial.now.items ++ left = ok_of c.try_extend_from_slice.result (items ≡ c.args.partial.now.items ++ left) (c.try_extend_from_slice.ensures.variant.1 fits) c.try_extend_from_slice.ensures.ok in
    let is : items ++ [] ≡ left = append-nil items ∙ kept ∙ ap (λ (t : List ℕ). t ++ left) c.requires in
    let P : List ℕ → Type 0 = λ bytes. Advances c.args.machine.now c.take_all.new.machine c.args.bytes.now bytes in
    subst P (sym is) c.in_ok-behind.ensures.ok

pub returns-clause-short : goal.returns-clause-short
returns-clause-short c =
    let state = c.take_all.new.machine.state in
    let left = c.in_ok-behind.behind.now in
    let items = c.try_extend_from_slice.new.self.items in
    let small = token_small state left (sym c.is_settled.ensures ∙ c.if-is_settled.false) in
    let fits : length c.args.partial.now.items + length left ≤ 1028 = omega (arith, small, c.in_ok-behind.ensures.short, ap (λ (t : List ℕ). length t) c.requires) in
    let kept : items ≡ c.args.partial.now.items ++ left = ok_of c.try_extend_from_slice.result (items ≡ c.args.partial.now.items ++ left) (c.try_extend_from_slice.ensures.variant.1 fits) c.try_extend_from_slice.ensures.ok in
    let is : items ≡ left = kept ∙ ap (λ (t : List ℕ). t ++ left) c.requires in
    let P : List ℕ → Type 0 = λ bytes. length bytes < token_size state bytes in
    subst P (sym is) c.in_ok-behind.ensures.short
