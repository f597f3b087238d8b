use Rattle.tree_stream.specs.declared.state.State.TheVariants.{Node, Separator, Key, Row, Cell}
use Rattle.tree_stream.proofs.KeepingLaws.{moves_from, ok_moves_from, lost_from}
use Rattle.std.proofs.Common.{suc, refl, ◌∙◌}
use Rattle.tree_stream.proofs.Steps.{yields_node, yields_separator, yields_key, yields_row, yields_cell}
use Rattle.tree_stream.proofs.StateLaws.{node_token, separator_token, key_state_token, row_token, cell_token, step_from, ok_step_from, complete_step, invalid_step, row_way, cell_way}
use Rattle.tree_stream.proofs.take.next_state.Goals as goal

pub take_node-requires : goal.take_node-requires
take_node-requires c = c.requires ∙ node_token c.args.state c.in-Node.visited c.args.token.now c.in-Node.is

pub take_separator-requires : goal.take_separator-requires
take_separator-requires c = c.requires ∙ separator_token c.args.state c.in-Separator.head c.args.token.now c.in-Separator.is

pub take_key-requires : goal.take_key-requires
take_key-requires c = c.requires ∙ key_state_token c.args.state c.in-Key.leaf c.args.token.now c.in-Key.is

pub take_row-requires : goal.take_row-requires
take_row-requires c = c.requires ∙ row_token c.args.state c.in-Row.leaf c.args.token.now c.in-Row.is

pub take_cell-requires : goal.take_cell-requires
take_cell-requires c = c.requires ∙ cell_token c.args.state c.in-Cell.row c.args.token.now c.in-Cell.is

pub returns-in-Node-clause-ok : goal.returns-in-Node-clause-ok
returns-in-Node-clause-ok c = step_from c.args.context.now _ _ c.args.state _ _ c.args.token.now c.in-Node.is (yields_node c.args.context.now c.in-Node.visited).each c.take_node.ensures.yields

pub returns-in-Separator-clause-ok : goal.returns-in-Separator-clause-ok
returns-in-Separator-clause-ok c =
    step_from c.args.context.now _ _ c.args.state _ _ c.args.token.now c.in-Separator.is (yields_separator c.args.context.now c.in-Separator.head (suc c.in-Separator.head.left) refl).each c.take_separator.ensures.yields

pub returns-in-Key-clause-ok : goal.returns-in-Key-clause-ok
returns-in-Key-clause-ok c = step_from c.args.context.now _ _ c.args.state _ _ c.args.token.now c.in-Key.is (yields_key c.args.context.now c.in-Key.leaf (suc c.in-Key.leaf.left) refl).each c.take_key.ensures.yields

pub returns-in-Row-clause-ok : goal.returns-in-Row-clause-ok
returns-in-Row-clause-ok c = ok_step_from c.args.context.now _ c.take_row.result c.args.state _ _ c.args.token.now c.in-Row.is (yields_row c.args.context.now c.in-Row.leaf).each c.take_row.ensures.ok

pub returns-in-Row-clause-way : goal.returns-in-Row-clause-way
returns-in-Row-clause-way c = λ err.
    row_way c.args.context.now c.args.state c.in-Row.leaf c.args.token.now c.in-Row.is c.args.context.now.few (c.take_row.ensures.good err)

pub returns-in-Cell-clause-ok : goal.returns-in-Cell-clause-ok
returns-in-Cell-clause-ok c =
    ok_step_from c.args.context.now _ c.take_cell.result c.args.state _ _ c.args.token.now c.in-Cell.is (yields_cell c.args.context.now c.in-Cell.row (suc c.in-Cell.row.left) refl).each c.take_cell.ensures.ok

pub returns-in-Cell-clause-way : goal.returns-in-Cell-clause-way
returns-in-Cell-clause-way c = λ err.
    cell_way c.args.context.now c.args.state c.in-Cell.row c.args.token.now c.in-Cell.is c.args.context.now.few (c.take_cell.ensures.good err)

pub returns-in-Complete-clause-ok : goal.returns-in-Complete-clause-ok
returns-in-Complete-clause-ok c = complete_step c.args.context.now _ c.args.state c.in-Complete.field-0 c.args.token.now c.in-Complete.is c.requires

pub returns-in-Invalid-clause-ok : goal.returns-in-Invalid-clause-ok
returns-in-Invalid-clause-ok c = invalid_step c.args.context.now _ c.args.state c.args.token.now c.in-Invalid.is

pub returns-in-Node-clause-moves : goal.returns-in-Node-clause-moves
returns-in-Node-clause-moves c =
    moves_from c.args.context.now c.take_node.new.context c.take_node.result c.args.state (Node c.in-Node.visited) c.args.token.now c.in-Node.is c.take_node.ensures.stands (λ bytes at keeps. c.take_node.ensures.keeps bytes keeps)

pub returns-in-Separator-clause-moves : goal.returns-in-Separator-clause-moves
returns-in-Separator-clause-moves c =
    moves_from c.args.context.now c.take_separator.new.context c.take_separator.result c.args.state (Separator c.in-Separator.head) c.args.token.now c.in-Separator.is c.take_separator.ensures.stands (λ bytes at keeps. c.take_separator.ensures.keeps bytes keeps)

pub returns-in-Key-clause-moves : goal.returns-in-Key-clause-moves
returns-in-Key-clause-moves c =
    moves_from c.args.context.now c.take_key.new.context c.take_key.result c.args.state (Key c.in-Key.leaf) c.args.token.now c.in-Key.is c.take_key.ensures.stands c.take_key.ensures.keeps

pub returns-in-Row-clause-moves : goal.returns-in-Row-clause-moves
returns-in-Row-clause-moves c =
    ok_moves_from c.args.context.now c.take_row.new.context c.take_row.result c.args.state (Row c.in-Row.leaf) c.args.token.now c.in-Row.is c.take_row.ensures.stands c.take_row.ensures.keeps

pub returns-in-Cell-clause-moves : goal.returns-in-Cell-clause-moves
returns-in-Cell-clause-moves c =
    ok_moves_from c.args.context.now c.take_cell.new.context c.take_cell.result c.args.state (Cell c.in-Cell.row) c.args.token.now c.in-Cell.is c.take_cell.ensures.stands c.take_cell.ensures.keeps

pub returns-in-Complete-clause-moves : goal.returns-in-Complete-clause-moves
returns-in-Complete-clause-moves c = λ bytes at. lost_from c.args.context.now c.args.state c.args.token.now bytes at

pub returns-in-Invalid-clause-moves : goal.returns-in-Invalid-clause-moves
returns-in-Invalid-clause-moves c = λ bytes at. lost_from c.args.context.now c.args.state c.args.token.now bytes at
