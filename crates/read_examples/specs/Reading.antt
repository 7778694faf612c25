-- Examples of big-endian reads and writes, of the header and of a writer's room (document 01, module 2 and "Numbers and bounds"). Assumes nothing.
use Rattle.std.specs.Prelude.{◌≡◌, refl, true, false, List, [], ◌∷◌, ℕ, ◌+◌, ◌-◌, get_or, replicate, Err, Ok}
use Rattle.laws.specs.Firsts.{all, all_below}
use Rattle.laws.specs.Over.{over}
use Rattle.error.specs.declared.Refusal.TheVariants.{BadHeader, BadBody, NoRoom}
use Rattle.common.specs.Rules.{be2, be4, bytes2, bytes4, seek_of, read_u8, read_u16, read_u32, limit, header_of, room_verdict}

-- six bytes
abbrev six : List ℕ
six = 1 ∷ 2 ∷ 3 ∷ 4 ∷ 5 ∷ 6 ∷ []

-- two numbers, the second the largest
abbrev two : List ℕ
two = 7 ∷ 0xFFFF_FFFF ∷ []

-- MOBJ, as a number and at the front of so many bytes
abbrev mobj : ℕ
mobj = 0x4D4F_424A

abbrev file_of : ℕ → List ℕ
file_of n = 0x4D ∷ 0x4F ∷ 0x42 ∷ 0x4A ∷ replicate (n - 4) 0

-- A new reader stands at the first byte.
new_reader : read_u8 (file_of 44) 0 ≡ (Ok 0x4D, 1)
new_reader = refl

-- A seek past the end is refused.
seek_past_the_end : seek_of six 0 7 ≡ (Err BadBody, 0)
seek_past_the_end = refl

-- A skip goes on from the position.
skip_of_3_from_2 : seek_of six 2 (2 + 3) ≡ (Ok tt, 5)
skip_of_3_from_2 = refl

-- A skip to the end is allowed, one past it refused.
skips_of_4_and_5_from_2 : seek_of six 2 (2 + 4) ∷ seek_of six 2 (2 + 5) ∷ [] ≡ (Ok tt, 6) ∷ (Err BadBody, 2) ∷ []
skips_of_4_and_5_from_2 = refl

-- A read that passes the end is refused.
byte_past_the_end : read_u8 six 6 ≡ (Err BadBody, 6)
byte_past_the_end = refl

word_cut_by_the_end : read_u32 six 3 ≡ (Err BadBody, 3)
word_cut_by_the_end = refl

-- Reads are big-endian, and hand the next position back.
half_at_1 : read_u16 six 1 ≡ (Ok 0x0203, 3)
unfolding be2
half_at_1 = refl

word_at_1 : read_u32 six 1 ≡ (Ok 0x0203_0405, 5)
unfolding be4
word_at_1 = refl

-- Under 40 bytes is a bad header.
lengths_39_and_40 : header_of mobj (file_of 39) ∷ header_of mobj (file_of 40) ∷ [] ≡ Err BadHeader ∷ Ok tt ∷ []
unfolding be4 header_of
lengths_39_and_40 = refl

-- Without a position, places count from 0, and past the end stands 0: bytes, numbers, and halves and words that the end cuts.
bytes_5_and_6 : get_or six 5 0 ∷ get_or six 6 0 ∷ [] ≡ 6 ∷ 0 ∷ []
bytes_5_and_6 = refl

numbers_1_and_2 : get_or two 1 0 ∷ get_or two 2 0 ∷ [] ≡ 0xFFFF_FFFF ∷ 0 ∷ []
numbers_1_and_2 = refl

half_cut_by_the_end : be2 six 5 ≡ 0x0600
unfolding be2
half_cut_by_the_end = refl

words_1_and_4 : be4 six 1 ∷ be4 six 4 ∷ [] ≡ 0x0203_0405 ∷ 0x0506_0000 ∷ []
unfolding be4
words_1_and_4 = refl

-- A flag of 2 doesn't fit its bit (9 not encodable).
flags : all_below 2 (0 ∷ 1 ∷ []) 2 ∷ all_below 2 (0 ∷ 2 ∷ 1 ∷ []) 3 ∷ [] ≡ true ∷ false ∷ []
unfolding all all_below
flags = refl

-- A file of the limit is written where the room is as long, and not where it is shorter; a longer one never.
rooms : room_verdict limit limit ∷ room_verdict limit 99 ∷ room_verdict (limit + 1) (limit + 1) ∷ [] ≡ Ok tt ∷ Err NoRoom ∷ Err NoRoom ∷ []
unfolding room_verdict
rooms = refl

-- Writes are big-endian, at a place, and leave the rest as it was.
half_written : over six 1 (bytes2 0xABCD) ≡ 1 ∷ 0xAB ∷ 0xCD ∷ 4 ∷ 5 ∷ 6 ∷ []
unfolding over bytes2
half_written = refl

word_written : over six 1 (bytes4 0xABCD_EF01) ≡ 1 ∷ 0xAB ∷ 0xCD ∷ 0xEF ∷ 0x01 ∷ 6 ∷ []
unfolding over bytes4
word_written = refl

zeros_written : over six 2 (replicate 3 0) ≡ 1 ∷ 2 ∷ 0 ∷ 0 ∷ 0 ∷ 6 ∷ []
unfolding over
zeros_written = refl

bytes_written : over six 3 (7 ∷ 8 ∷ []) ≡ 1 ∷ 2 ∷ 3 ∷ 7 ∷ 8 ∷ 6 ∷ []
unfolding over
bytes_written = refl
