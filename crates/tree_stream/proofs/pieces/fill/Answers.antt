use Rattle.std.proofs.Common.{List, ℕ, ◌≡◌, ◌≤◌, ◌<◌, ◌++◌, length, refl, subst, sym, ap, ◌∙◌, arith, inr}
use Rattle.vo_spec.specs.Bytes.{IsBytes}
use Rattle.tree_stream.specs.Machines.{Takes, summary_of_machine}
use Rattle.tree_stream.specs.Summaries.{CanEnd}
use Rattle.tree_stream.specs.Tokens.{token_size}
use Rattle.tree_stream.proofs.AllBytes.{IsBytes-before}
use Rattle.tree_stream.proofs.PieceLaws.{empty_short, filled_is, filled_taken, grew_some, is_filled, longer_way, none_behind, same_bytes, stops_first}
use Rattle.tree_stream.proofs.pieces.fill.Goals as goal

pub take-taken-requires : goal.take-taken-requires
take-taken-requires c =
    let machine = c.args.machine.now in
    let partial = c.args.partial.now.items in
    let piece = c.args.piece.now in
    let all = c.grow-left.new.partial.items in
    let left = c.grow-left.result.now in
    let grown = c.grow-left.ensures.grown in
    let size : c.token_size.result ≡ token_size machine.state all = c.token_size.ensures ∙ ap (token_size machine.state) c.as_slice.ensures.value in
    let le : token_size machine.state all ≤ length all = omega (arith, size, c.len.ensures.value, c.if-len-token_size.false) in
    let whole : length all ≡ token_size machine.state all = is_filled (length all) (token_size machine.state all) left c.grow-left.ensures.filled le in
    let P : List ℕ → Type 0 = λ token. length token ≡ token_size machine.state token in
    subst P (sym c.as_slice-2.ensures.value) whole

pub returns-then-len-token_size-clause-ok : goal.returns-then-len-token_size-clause-ok
returns-then-len-token_size-clause-ok c =
    let machine = c.args.machine.now in
    let partial = c.args.partial.now.items in
    let piece = c.args.piece.now in
    let all = c.grow-left.new.partial.items in
    let left = c.grow-left.result.now in
    let grown = c.grow-left.ensures.grown in
    same_bytes machine (partial ++ piece) (all ++ left) (filled_is partial grown.front left piece all grown.grown grown.parts)

pub returns-then-len-token_size-clause-all : goal.returns-then-len-token_size-clause-all
returns-then-len-token_size-clause-all c =
    let machine = c.args.machine.now in
    let partial = c.args.partial.now.items in
    let piece = c.args.piece.now in
    let all = c.grow-left.new.partial.items in
    let left = c.grow-left.result.now in
    let grown = c.grow-left.ensures.grown in
    let size : c.token_size.result ≡ token_size machine.state all = c.token_size.ensures ∙ ap (token_size machine.state) c.as_slice.ensures.value in
    inr (none_behind (length all) (token_size machine.state all) left c.grow-left.ensures.filled (omega (arith, size, c.len.ensures.value, c.if-len-token_size.true)))

pub returns-then-len-token_size-clause-behind : goal.returns-then-len-token_size-clause-behind
returns-then-len-token_size-clause-behind c = (c.grow-left.ensures.grown.front, c.grow-left.ensures.grown.parts)

pub returns-clause-ok : goal.returns-clause-ok
returns-clause-ok c =
    let machine = c.args.machine.now in
    let partial = c.args.partial.now.items in
    let piece = c.args.piece.now in
    let all = c.grow-left.new.partial.items in
    let left = c.grow-left.result.now in
    let grown = c.grow-left.ensures.grown in
    let P : List ℕ → Type 0 = λ token. Takes machine c.take-taken.new.machine token in
    filled_taken machine c.take-taken.new.machine partial grown.front left piece all c.clear.new.self.items grown.grown grown.parts (subst P c.as_slice-2.ensures.value c.in_ok-taken.ensures.ok) c.clear.ensures

pub returns-clause-behind : goal.returns-clause-behind
returns-clause-behind c = (c.grow-left.ensures.grown.front, c.grow-left.ensures.grown.parts)

pub returns-clause-short : goal.returns-clause-short
returns-clause-short c = empty_short c.take-taken.new.machine.state c.clear.new.self.items c.clear.ensures

pub returns-in_err-taken-clause-short : goal.returns-in_err-taken-clause-short
returns-in_err-taken-clause-short c = empty_short c.take-taken.new.machine.state c.clear.new.self.items c.clear.ensures

pub returns-in_err-taken-clause-way : goal.returns-in_err-taken-clause-way
returns-in_err-taken-clause-way c = λ err.
    let machine = c.args.machine.now in
    let partial = c.args.partial.now.items in
    let piece = c.args.piece.now in
    let all = c.grow-left.new.partial.items in
    let left = c.grow-left.result.now in
    let grown = c.grow-left.ensures.grown in
    let fits : IsBytes grown.front = IsBytes-before grown.front left piece grown.parts (λ i. omega (arith, c.type_inv.piece i)) in
    let P : List ℕ → Type 0 = λ token. CanEnd (λ rest. summary_of_machine machine (token ++ rest)) in
    longer_way machine partial grown.front all fits grown.grown (subst P c.as_slice-2.ensures.value (c.in_err-taken.ensures.way refl))

pub returns-in_err-taken-clause-memory : goal.returns-in_err-taken-clause-memory
returns-in_err-taken-clause-memory c = λ err.
    let machine = c.args.machine.now in
    let partial = c.args.partial.now.items in
    let piece = c.args.piece.now in
    let all = c.grow-left.new.partial.items in
    let left = c.grow-left.result.now in
    let grown = c.grow-left.ensures.grown in
    let size : c.token_size.result ≡ token_size machine.state all = c.token_size.ensures ∙ ap (token_size machine.state) c.as_slice.ensures.value in
    let le : token_size machine.state all ≤ length all = omega (arith, size, c.len.ensures.value, c.if-len-token_size.false) in
    let whole : length all ≡ token_size machine.state all = is_filled (length all) (token_size machine.state all) left c.grow-left.ensures.filled le in
    let some : 0 < length piece = grew_some machine.state partial grown.front left piece all grown.grown grown.parts c.requires.short whole in
    stops_first machine partial piece (c.in_err-taken.ensures.memory refl) c.requires.short some
