use Rattle.std.proofs.Common.{◌≡◌, None}
use Rattle.tree_stream.proofs.PieceLaws.{split_is}
use Rattle.reply_stream.specs.HeadFields.{field_size}
use Rattle.reply_stream.proofs.HeadPieces.{none_held}
use Rattle.reply_stream.proofs.HeadFronts.{settled_behind, went_behind}
use Rattle.std.proofs.Common.{arith}
use Rattle.std.proofs.lemmas.Grind.{common_steps}
use Rattle.reply_stream.proofs.head_stream.+feed_fields.Goals as goal

pub returns-in-Ok-clause-ok : goal.returns-in-Ok-clause-ok
returns-in-Ok-clause-ok t c = grind (arith, common_steps)

pub fill_field-requires : goal.fill_field-requires
fill_field-requires t c = grind (arith, common_steps)

pub returns-clause-ok : goal.returns-clause-ok
returns-clause-ok t c = grind (arith, common_steps)

pub returns-in_default-clause-behind : goal.returns-in_default-clause-behind
returns-in_default-clause-behind t c = λ bytes behind.
    let none : field_size c.args.state.now ≡ None = grind (arith, common_steps) in
    let no_held = none_held (field_size c.args.state.now) c.args.held.now.items none c.requires in
    settled_behind c.args.state.now c.args.state.now c.args.held.now.items c.args.held.now.items bytes none no_held behind c.args.piece.now

pub returns-clause-behind : goal.returns-clause-behind
returns-clause-behind t c =
    went_behind c.feed_fields.result c.args.state.now c.fill_field.new.state c.feed_fields.new.state c.args.held.now.items c.split_at.result.0.now c.split_at.result.1.now c.args.piece.now c.clear.new.self.items c.feed_fields.new.held.items
    c.clear.ensures.items (split_is _ c.args.piece.now c.split_at.result.0.now c.split_at.result.1.now c.split_at.ensures.front c.split_at.ensures.back) c.in_default-fill_field.ensures.took c.feed_fields.ensures.behind
