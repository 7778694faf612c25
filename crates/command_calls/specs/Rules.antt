-- What the calls for C of one command hand back and leave, in the numbers of `nav_numbers`; a refusal alters nothing. Assumes nothing.
use Rattle.std.specs.Prelude.{List, cond, ℕ}
use Rattle.error.specs.declared.Refusal.TheVariants.{BadBuffer, NotEncodable}
use Rattle.nav_numbers.specs.Rules.{command_numbers, command_named, is_command}
use Rattle.nav_command.specs.Rules.{command_of}
use Rattle.nav_encode.specs.Rules.{Encoding, encode_of}
use Rattle.nav_list.specs.Rules.{Listing, line_of, list_of}
use Rattle.lent.specs.Rules.{length_by, sized, verdict_number, Handed, handed, refused, into, Measured, measured, unmeasured}

-- A listing, and its length.
abbrev pub text : Listing → ℕ → Measured
text g k = measured g.held (length_by g.answer k)

unfoldable pub decode_call : List ℕ → List ℕ → Handed
decode_call command l = into 13 l (cond (sized 12 command) (handed 0 (command_numbers (command_of command))) (refused BadBuffer l))

abbrev pub coded : Encoding → Handed
coded e = handed (verdict_number e.answer) e.held

unfoldable pub encode_call : List ℕ → List ℕ → Handed
encode_call l out =
    cond (sized 13 l) (cond (is_command l) (coded (encode_of (command_named l) out)) (refused NotEncodable out)) (refused BadBuffer out)

unfoldable pub list_command_call : List ℕ → List ℕ → ℕ → Measured
list_command_call command out k =
    cond (sized 12 command) (text (list_of out 0 (line_of (command_of command))) k) (unmeasured BadBuffer out k)
