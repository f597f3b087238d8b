use Rattle.std.proofs.Common.{◌<◌, ◌≡◌, List, ℕ, [], ◌++◌, length, ap, refl, ◌∙◌, arith}
use Rattle.std.proofs.lemmas.List.{length-append, length-drop}
use Rattle.tree_stream.specs.Machines.{Advances, summary_of_machine}
use Rattle.tree_stream.proofs.PieceLaws.{and_then, goes_on, passes_back, passes_of, size_positive, split_is, stops_here, token_whole}
use Rattle.tree_stream.proofs.pieces.take_all.Goals as goal

pub take-requires : goal.take-requires
take-requires c =
    token_whole c.tokens.machine.state c.tokens.left.now c.split_at.result.0.now c.tokens.size c.tokens.invariant.is_size (omega (arith, c.tokens-test.true)) c.split_at.ensures.front

pub tokens-smaller : goal.tokens-smaller
tokens-smaller c =
    let behind : List ℕ = c.split_at.result.1.now in
    let cells = c.in_ok-left.ensures.ok in
    let smaller : length c.in_ok-left.left.now < length c.tokens.left.now =
    omega (
      arith,
      size_positive c.tokens.machine.state c.tokens.left.now,
      c.tokens.invariant.is_size,
      length-drop c.tokens.size c.tokens.left.now,
      ap (λ (t : List ℕ). length t) c.split_at.ensures.back,
      c.tokens-test.true,
      ap (λ (t : List ℕ). length t) cells.parts,
      length-append cells.taken c.in_ok-left.left.now,
    ) in
    smaller

pub tokens-preserved : goal.tokens-preserved
tokens-preserved c =
    let first = c.args.machine.now in
    let bytes : List ℕ = c.args.bytes.now in
    let left : List ℕ = c.tokens.left.now in
    let token : List ℕ = c.split_at.result.0.now in
    let behind : List ℕ = c.split_at.result.1.now in
    let parts : left ≡ token ++ behind = split_is c.tokens.size left token behind c.split_at.ensures.front c.split_at.ensures.back in
    let taken : Advances first c.take.new.machine bytes behind = goes_on first c.tokens.machine c.take.new.machine bytes left token behind c.tokens.invariant.advances c.in_ok-take.ensures.ok parts in
    record {
      is_size = c.token_size-size-in-tokens.ensures;
      advances = and_then first c.take.new.machine c.take_cells.new.machine bytes behind c.in_ok-left.left.now taken c.in_ok-left.ensures.ok;
      target = c.take_cells.ensures.target ∙ c.take.ensures.target ∙ c.tokens.invariant.target;
    }

pub returns-in_err-take-clause-memory : goal.returns-in_err-take-clause-memory
returns-in_err-take-clause-memory c = λ err.
    stops_here c.args.machine.now c.tokens.machine c.args.bytes.now c.tokens.left.now c.tokens.invariant.advances c.tokens.invariant.target (c.in_err-take.ensures.memory refl)
    (omega (arith, size_positive c.tokens.machine.state c.tokens.left.now, c.tokens.invariant.is_size, c.tokens-test.true))

pub returns-in_err-take-clause-way : goal.returns-in_err-take-clause-way
returns-in_err-take-clause-way c = λ err.
    let left : List ℕ = c.tokens.left.now in
    let token : List ℕ = c.split_at.result.0.now in
    let behind : List ℕ = c.split_at.result.1.now in
    let parts : left ≡ token ++ behind = split_is c.tokens.size left token behind c.split_at.ensures.front c.split_at.ensures.back in
    passes_back (summary_of_machine c.args.machine.now) (summary_of_machine c.tokens.machine) c.args.bytes.now left token behind (λ i. omega (arith, c.type_inv.bytes i)) (passes_of c.args.machine.now c.tokens.machine c.args.bytes.now left c.tokens.invariant.advances) parts (c.in_err-take.ensures.way refl)

pub returns-in_err-left-clause-memory : goal.returns-in_err-left-clause-memory
returns-in_err-left-clause-memory c = λ err.
    let first = c.args.machine.now in
    let bytes : List ℕ = c.args.bytes.now in
    let left : List ℕ = c.tokens.left.now in
    let token : List ℕ = c.split_at.result.0.now in
    let behind : List ℕ = c.split_at.result.1.now in
    let parts : left ≡ token ++ behind = split_is c.tokens.size left token behind c.split_at.ensures.front c.split_at.ensures.back in
    let taken : Advances first c.take.new.machine bytes behind = goes_on first c.tokens.machine c.take.new.machine bytes left token behind c.tokens.invariant.advances c.in_ok-take.ensures.ok parts in
    stops_here first c.take.new.machine bytes behind taken (c.take.ensures.target ∙ c.tokens.invariant.target) (c.in_err-left.ensures.memory refl) (c.in_err-left.ensures.some refl)

pub returns-in_err-left-clause-way : goal.returns-in_err-left-clause-way
returns-in_err-left-clause-way c = λ err.
    let first = c.args.machine.now in
    let bytes : List ℕ = c.args.bytes.now in
    let left : List ℕ = c.tokens.left.now in
    let token : List ℕ = c.split_at.result.0.now in
    let behind : List ℕ = c.split_at.result.1.now in
    let parts : left ≡ token ++ behind = split_is c.tokens.size left token behind c.split_at.ensures.front c.split_at.ensures.back in
    let taken : Advances first c.take.new.machine bytes behind = goes_on first c.tokens.machine c.take.new.machine bytes left token behind c.tokens.invariant.advances c.in_ok-take.ensures.ok parts in
    passes_back (summary_of_machine first) (summary_of_machine c.take.new.machine) bytes behind [] behind (λ i. omega (arith, c.type_inv.bytes i)) (passes_of first c.take.new.machine bytes behind taken) refl (c.in_err-left.ensures.way refl)
