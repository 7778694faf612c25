use Rattle.std.proofs.Common.{sym, ◌∙◌}
use Rattle.utf8.specs.Laws.{ascii}
use Rattle.utf8.proofs.is_utf8_name.Goals as goal

pub returns-then-all_ascii : goal.returns-then-all_ascii
returns-then-all_ascii c = sym (ascii _ _ c.requires (sym c.all_ascii.ensures ∙ c.if-all_ascii.true))
