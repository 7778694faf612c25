-- The sheet part by part (`sheet_branch` to `sheet_system`), and what it lacks. Assumes nothing.
use Rattle.std.proofs.Common.{arith}
use Rattle.nav_numbers.proofs.Laws.{sheet_none, sheet_branch, sheet_compare, sheet_set, sheet_system, sheet_past}
use Rattle.nav_numbers.proofs.sheet_named.Goals as goal

pub returns-in-1-to-14 : goal.returns-in-1-to-14
returns-in-1-to-14 c = sheet_branch c.args.number _ _ (omega arith) (omega arith)

pub returns-in-15-to-21 : goal.returns-in-15-to-21
returns-in-15-to-21 c = sheet_compare c.args.number _ _ (omega arith) (omega arith)

pub returns-in-22-to-36 : goal.returns-in-22-to-36
returns-in-22-to-36 c = sheet_set c.args.number _ _ (omega arith) (omega arith)

pub returns-in-37-to-47 : goal.returns-in-37-to-47
returns-in-37-to-47 c = sheet_system c.args.number _ _ (omega arith) (omega arith)

pub returns-in_default : goal.returns-in_default
returns-in_default c = sheet_none c.args.number _ (omega arith)

pub returns-in_default-2 : goal.returns-in_default-2
returns-in_default-2 c = sheet_past c.args.number _ (omega arith)
