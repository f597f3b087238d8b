use Rattle.vo_spec.specs.Conditions.{query_of}
use Rattle.vo_format.specs.View.{row_trees_of}
use Rattle.vo_store.proofs.ReplyLaws.{trees_standing, reply_within}
use Rattle.vo_store.proofs.answering.reply_by_tables.Goals as goal

pub proofs_for-requires-clause-standing : goal.proofs_for-requires-clause-standing
proofs_for-requires-clause-standing c = trees_standing c.args.tables.now c.requires.honest

pub returns-clause-fits : goal.returns-clause-fits
returns-clause-fits c =
    reply_within (query_of c.args.query.now) c.args.installed.now.rec c.args.tables.now c.as_slice.result.now c.args.installed.now.signature c.in_ok-catalog.catalog (row_trees_of c.in_ok-trees.trees)
    c.as_slice.ensures c.in_ok-catalog.ensures.value c.in_ok-trees.ensures c.requires.honest c.requires.signed c.requires.magic c.requires.short
