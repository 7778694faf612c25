-- An entry of a good record has a type and a playback type of two bits, and a name of five bytes. Assumes nothing.
use mathlib.Core.Path.{sym, ◌∙◌, ap}
use lib.ListN.{length}
use Rattle.index_bdmv_write.specs.Laws.{lent, length_name, good_playback, good_kind, kind_small, name_part}
use Rattle.index_bdmv_write.specs.Rules.{entry_of_record}
use Rattle.index_bdmv_write.proofs.put_one.Goals as goal

pub put_entry-requires : goal.put_entry-requires
put_entry-requires c = let s = c in let e = lent c.args.entries.now in (c.requires.0, kind_small (good_kind e s.requires.2 _ s.requires.1), good_playback e s.requires.2 _ s.requires.1, ap length (name_part c.args.entries.now.names.now c.args.k) ∙ length_name e s.requires.2.lengths.names _ s.requires.1)

pub returns : goal.returns
unfolding entry_of_record
returns c = rw (sym (name_part c.args.entries.now.names.now c.args.k)) c.put_entry.ensures
