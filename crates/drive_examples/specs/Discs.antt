-- What the examples drive, beside object files: commands of titles and index files. Assumes nothing.
use Rattle.std.specs.Prelude.{List, ◌++◌, ℕ, replicate}
use Rattle.common.specs.Rules.{bytes2, bytes4}

-- commands with an immediate operand
abbrev pub move : ℕ → ℕ → List ℕ
move r v = bytes4 0x5040_0001 ++ bytes4 r ++ bytes4 v

abbrev pub jump_title : ℕ → List ℕ
jump_title t = bytes4 0x2181_0000 ++ bytes4 t ++ bytes4 0

abbrev pub call_title : ℕ → List ℕ
call_title t = bytes4 0x2183_0000 ++ bytes4 t ++ bytes4 0

abbrev pub play : ℕ → List ℕ
play p = bytes4 0x2280_0000 ++ bytes4 p ++ bytes4 0

-- an HDMV entry, and an index of first playback, top menu and so many titles
abbrev pub hdmv : ℕ → List ℕ
hdmv o = bytes4 0x4000_0000 ++ bytes2 o ++ replicate 6 0

abbrev pub index : ℕ → ℕ → ℕ → List ℕ → List ℕ
index first menu n titles =
    bytes4 0x494E4458 ++ bytes4 0 ++ bytes4 46 ++ replicate 28 0 ++ bytes4 2 ++ replicate 6 0 ++ hdmv first ++ hdmv menu ++ bytes2 n ++ titles
