-- The names of operations and of status registers, as they are listed. Assumes nothing.
use Rattle.std.specs.Prelude.{Bool, true, Option, Some, None, cond, List, [], ◌∷◌, ◌++◌, ℕ, get_or}
use Rattle.register_model.specs.declared.PsrClass.{PsrClass}
use Prim.Native.String.{String}
use Rattle.text.specs.Rules.{bytes}
use Rattle.register_model.specs.Rules.{class_of}
use Rattle.register_model.specs.Names.{name_of, reserved}

-- The operations' names, in the order of their numbers.
abbrev pub mnemonics : List String
mnemonics =
    ""
    ∷ "Nop" ∷ "GoTo" ∷ "Break" ∷ "JumpObject" ∷ "JumpTitle" ∷ "CallObject" ∷ "CallTitle"
    ∷ "Resume" ∷ "PlayPL" ∷ "PlayPLatPlayItem" ∷ "PlayPLatMark" ∷ "TerminatePL" ∷ "LinkPI" ∷ "LinkMK"
    ∷ "Bc" ∷ "Eq" ∷ "Ne" ∷ "Ge" ∷ "Gt" ∷ "Le" ∷ "Lt"
    ∷ "Move" ∷ "Swap" ∷ "Add" ∷ "Sub" ∷ "Mul" ∷ "Div" ∷ "Mod" ∷ "Rnd"
    ∷ "And" ∷ "Or" ∷ "Xor" ∷ "BitSet" ∷ "BitClear" ∷ "ShiftLeft" ∷ "ShiftRight"
    ∷ "SetStream" ∷ "SetNvTimer" ∷ "SetButtonPage" ∷ "EnableButton" ∷ "DisableButton" ∷ "SetSecondaryStream"
    ∷ "PopUpOff" ∷ "StillOn" ∷ "StillOff" ∷ "SetOutputMode" ∷ "SetStreamSS" ∷ []

unfoldable pub mnemonic : ℕ → List ℕ
mnemonic number = bytes (get_or mnemonics number "")

-- A status register is followed by its name, unless it is reserved; from 128 on all are.
unfoldable pub name_text : ℕ → List ℕ
name_text i = cond (reserved (class_of i)) [] (bytes "(" ++ (bytes (name_of i) ++ bytes ")"))

-- Whether a register has no name, by the class that it has.
abbrev pub unnamed : Option PsrClass → Bool
unnamed None = true
unnamed (Some k) = reserved k
