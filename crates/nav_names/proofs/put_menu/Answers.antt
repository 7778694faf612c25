-- `put_menu` writes the names of registers 8 to 15. Assumes nothing.
use Rattle.register_model.specs.Rules.{class_of}
use Rattle.register_model.specs.Names.{name_of}
use Rattle.nav_names.specs.Rules.{name_text}
use Rattle.nav_names.proofs.put_menu.Goals as goal

pub returns-in-8 : goal.returns-in-8
unfolding name_text name_of class_of
returns-in-8 c = rw c.in-8.is c.put.ensures

pub returns-in-9 : goal.returns-in-9
unfolding name_text name_of class_of
returns-in-9 c = rw c.in-9.is c.put-in-9.ensures

pub returns-in-10 : goal.returns-in-10
unfolding name_text name_of class_of
returns-in-10 c = rw c.in-10.is c.put-in-10.ensures

pub returns-in-11 : goal.returns-in-11
unfolding name_text name_of class_of
returns-in-11 c = rw c.in-11.is c.put-in-11.ensures

pub returns-in-12 : goal.returns-in-12
unfolding name_text name_of class_of
returns-in-12 c = rw c.in-12.is c.put-in-12.ensures

pub returns-in-13 : goal.returns-in-13
unfolding name_text name_of class_of
returns-in-13 c = rw c.in-13.is c.put-in-13.ensures

pub returns-in-14 : goal.returns-in-14
unfolding name_text name_of class_of
returns-in-14 c = rw c.in-14.is c.put-in-14.ensures

pub returns-in-15 : goal.returns-in-15
unfolding name_text name_of class_of
returns-in-15 c = rw c.in-15.is c.put-in-15.ensures
