-- Replies and lists of trees as contracts see them.
use Rattle.std.specs.Prelude.{List, map}
use Rattle.std.specs.Global.{Vec}
use Rattle.mb_tree.specs.declared.parts.PartTree.{PartTree}
use Rattle.mb_tree.specs.View.{part_of}
use Rattle.vo_spec.specs.Trees.{RowTree}
use Rattle.vo_spec.specs.Replies.{Reply as Plain}
use Rattle.vo_format.specs.declared.reply.Reply.{Reply}

abbrev pub row_trees_of : Vec PartTree → List RowTree
row_trees_of trees = map part_of trees.items

abbrev pub reply_of : Reply → Plain
reply_of r = record {
  rec = r.rec;
  signature = r.signature.now;
  catalog = r.catalog;
  trees = row_trees_of r.trees;
}
