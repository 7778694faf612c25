-- `bytes_of` lays the fields out as the rule does; its callees' promises are put in from the last to the first. Assumes nothing.
use Rattle.nav_encode.specs.Rules.{bytes_of}
use Rattle.nav_encode.proofs.bytes_of.Goals as goal

pub returns : goal.returns
unfolding bytes_of
returns c =
    rw (
      c.to_be_bytes-2.ensures,
      c.word_of-2.ensures,
      c.to_be_bytes.ensures,
      c.word_of.ensures,
      c.set_byte-set.ensures,
      c.compare_byte-compare.ensures,
      c.option_of.ensures.0,
      c.bit_of-2.ensures.0,
      c.bit_of.ensures.0,
      c.bits_of.ensures.0,
      c.code_of-code.ensures,
    )
