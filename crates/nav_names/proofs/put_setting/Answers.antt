-- `put_setting` writes the names of registers 16 to 31. Assumes nothing.
use Rattle.register_model.specs.Rules.{class_of}
use Rattle.register_model.specs.Names.{name_of}
use Rattle.nav_names.specs.Rules.{name_text}
use Rattle.nav_names.proofs.Laws.{past_setting}
use Rattle.nav_names.proofs.put_setting.Goals as goal

pub put_backup-requires : goal.put_backup-requires
put_backup-requires c = past_setting c.args.index c.requires c.in_default.in_default-own.rest

pub returns-in-16 : goal.returns-in-16
unfolding name_text name_of class_of
returns-in-16 c = rw c.in-16.is c.put.ensures

pub returns-in-17 : goal.returns-in-17
unfolding name_text name_of class_of
returns-in-17 c = rw c.in-17.is c.put-in-17.ensures

pub returns-in-18 : goal.returns-in-18
unfolding name_text name_of class_of
returns-in-18 c = rw c.in-18.is c.put-in-18.ensures

pub returns-in-19 : goal.returns-in-19
unfolding name_text name_of class_of
returns-in-19 c = rw c.in-19.is c.put-in-19.ensures

pub returns-in-20 : goal.returns-in-20
unfolding name_text name_of class_of
returns-in-20 c = rw c.in-20.is c.put-in-20.ensures

pub returns-in-29 : goal.returns-in-29
unfolding name_text name_of class_of
returns-in-29 c = rw c.in-29.is c.put-in-29.ensures

pub returns-in-30 : goal.returns-in-30
unfolding name_text name_of class_of
returns-in-30 c = rw c.in-30.is c.put-in-30.ensures

pub returns-in-31 : goal.returns-in-31
unfolding name_text name_of class_of
returns-in-31 c = rw c.in-31.is c.put-in-31.ensures
