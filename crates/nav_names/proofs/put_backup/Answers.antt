-- `put_backup` writes the names of registers 36 to 44, and the one that those from 48 on share. Assumes nothing.
use Rattle.register_model.specs.Rules.{class_of}
use Rattle.register_model.specs.Names.{name_of}
use Rattle.nav_names.specs.Rules.{name_text}
use Rattle.nav_names.proofs.Laws.{shared}
use Rattle.nav_names.proofs.put_backup.Goals as goal

pub returns-in-36 : goal.returns-in-36
unfolding name_text name_of class_of
returns-in-36 c = rw c.in-36.is c.put.ensures

pub returns-in-37 : goal.returns-in-37
unfolding name_text name_of class_of
returns-in-37 c = rw c.in-37.is c.put-in-37.ensures

pub returns-in-38 : goal.returns-in-38
unfolding name_text name_of class_of
returns-in-38 c = rw c.in-38.is c.put-in-38.ensures

pub returns-in-39 : goal.returns-in-39
unfolding name_text name_of class_of
returns-in-39 c = rw c.in-39.is c.put-in-39.ensures

pub returns-in-40 : goal.returns-in-40
unfolding name_text name_of class_of
returns-in-40 c = rw c.in-40.is c.put-in-40.ensures

pub returns-in-42 : goal.returns-in-42
unfolding name_text name_of class_of
returns-in-42 c = rw c.in-42.is c.put-in-42.ensures

pub returns-in-43 : goal.returns-in-43
unfolding name_text name_of class_of
returns-in-43 c = rw c.in-43.is c.put-in-43.ensures

pub returns-in-44 : goal.returns-in-44
unfolding name_text name_of class_of
returns-in-44 c = rw c.in-44.is c.put-in-44.ensures

pub returns-in_default : goal.returns-in_default
returns-in_default c = rw (shared c.args.index c.requires c.in_default.in_default-own.rest) c.put-in_default.ensures
