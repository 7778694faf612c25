-- `put_playback` writes the names of registers 0 to 7. Assumes nothing.
use Rattle.register_model.specs.Rules.{class_of}
use Rattle.register_model.specs.Names.{name_of}
use Rattle.nav_names.specs.Rules.{name_text}
use Rattle.nav_names.proofs.put_playback.Goals as goal

pub returns-in-0 : goal.returns-in-0
unfolding name_text name_of class_of
returns-in-0 c = rw c.in-0.is c.put.ensures

pub returns-in-1 : goal.returns-in-1
unfolding name_text name_of class_of
returns-in-1 c = rw c.in-1.is c.put-in-1.ensures

pub returns-in-2 : goal.returns-in-2
unfolding name_text name_of class_of
returns-in-2 c = rw c.in-2.is c.put-in-2.ensures

pub returns-in-3 : goal.returns-in-3
unfolding name_text name_of class_of
returns-in-3 c = rw c.in-3.is c.put-in-3.ensures

pub returns-in-4 : goal.returns-in-4
unfolding name_text name_of class_of
returns-in-4 c = rw c.in-4.is c.put-in-4.ensures

pub returns-in-5 : goal.returns-in-5
unfolding name_text name_of class_of
returns-in-5 c = rw c.in-5.is c.put-in-5.ensures

pub returns-in-6 : goal.returns-in-6
unfolding name_text name_of class_of
returns-in-6 c = rw c.in-6.is c.put-in-6.ensures

pub returns-in-7 : goal.returns-in-7
unfolding name_text name_of class_of
returns-in-7 c = rw c.in-7.is c.put-in-7.ensures
