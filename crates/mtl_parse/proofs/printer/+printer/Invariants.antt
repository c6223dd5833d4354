use Rattle.std.proofs.Common.{◌+◌, ◌*◌}
use Rattle.std.specs.Prelude.{max}
use Rattle.mt_model.specs.Form.{form_of, height_of}
use Rattle.mtl_parse.proofs.printer.+printer.Given as goal

abbrev pub decreases-push_tree : goal.decreases-push_tree
decreases-push_tree l = 2 * height_of (form_of l.tree.now)

abbrev pub decreases-push_joined : goal.decreases-push_joined
decreases-push_joined l = 2 * max (height_of (form_of l.left.now)) (height_of (form_of l.right.now)) + 1

abbrev pub decreases-push_timed : goal.decreases-push_timed
decreases-push_timed l = 2 * max (height_of (form_of l.left.now)) (height_of (form_of l.right.now)) + 1

abbrev pub decreases-push_prefixed : goal.decreases-push_prefixed
decreases-push_prefixed l = 2 * height_of (form_of l.operand.now) + 1
