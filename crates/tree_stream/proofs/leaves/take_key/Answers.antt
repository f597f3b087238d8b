use Rattle.std.proofs.Common.{ℕ, List, subst, sym}
use Rattle.tree_stream.specs.Positions.{IsBehindKey}
use Rattle.tree_stream.proofs.KeepingLaws.{key_kept, rows_later}
use Rattle.tree_stream.proofs.PlaceLaws.{key_taken}
use Rattle.std.proofs.Common.{◌++◌, suc}
use Rattle.tree_stream.specs.Remaining.{rest_of_leaf, rest_of_row}
use Rattle.tree_stream.proofs.LeafLaws.{no_key}
use Rattle.tree_stream.proofs.Remainders.{same_with, none_with}
use Rattle.tree_stream.proofs.Steps.{yields_invalid, yields_row, yields_then, key_step}
use Rattle.tree_stream.proofs.leaves.take_key.Goals as goal

pub returns-in-None-clause-yields : goal.returns-in-None-clause-yields
returns-in-None-clause-yields c =
    yields_invalid _ _ (λ rest. none_with c.args.context.now.target c.args.context.now.ancestors.items c.args.context.now.findings
    (rest_of_leaf c.args.context.now.target c.args.leaf.hasher (suc c.args.leaf.left)) (c.args.token.now ++ rest)
    (no_key c.args.context.now.target c.args.leaf.hasher c.args.leaf.left (c.args.token.now ++ rest) (c.in-None.ensures rest)))

pub returns-in-Some-clause-yields : goal.returns-in-Some-clause-yields
returns-in-Some-clause-yields c =
    yields_then _ _ _ _ (yields_row _ _) (λ rest.
    same_with c.args.context.now.target c.args.context.now.ancestors.items c.args.context.now.findings
    (rest_of_row c.args.context.now.target c.add.new.self c.replace_key.new.last_key.items c.args.leaf.left)
    (rest_of_leaf c.args.context.now.target c.args.leaf.hasher (suc c.args.leaf.left)) rest (c.args.token.now ++ rest)
    (key_step c.args.context.now.target c.args.leaf.hasher c.add.new.self c.args.leaf.left c.args.token.now c.in-Some.key.now c.replace_key.new.last_key.items rest
    c.in-Some.ensures.0 c.in-Some.ensures.1 c.add.ensures c.replace_key.ensures))

pub returns-in-Some-clause-stands : goal.returns-in-Some-clause-stands
returns-in-Some-clause-stands c = λ bytes at.
    let P : List ℕ → Type 0 = λ key. IsBehindKey c.args.context.now.ancestors.items c.args.leaf.left key (bytes ++ c.args.token.now) in
    subst P (sym c.replace_key.ensures) (key_taken c.args.context.now.ancestors.items c.args.leaf.left bytes c.in-Some.key.now c.args.token.now at c.in-Some.ensures.0 c.in-Some.ensures.1)

pub returns-in-None-clause-keeps : goal.returns-in-None-clause-keeps
returns-in-None-clause-keeps c = λ bytes at keeps. rows_later c.args.context.now bytes c.args.token.now keeps

pub returns-in-Some-clause-keeps : goal.returns-in-Some-clause-keeps
returns-in-Some-clause-keeps c = λ bytes at keeps.
    key_kept c.args.context.now.ancestors.items c.args.leaf.left bytes c.in-Some.key.now c.args.token.now c.replace_key.new.last_key.items c.args.context.now.target.interval c.args.context.now.findings.rows at keeps
    c.in-Some.ensures.0 c.in-Some.ensures.1 c.replace_key.ensures
