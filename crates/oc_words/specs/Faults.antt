-- Which word is at fault (our profile).
use Rattle.std.specs.Prelude.{◌≡◌, ℕ, Result, Err}
use Rattle.oc_words.specs.{declared.fault.WordCode.{WordCode}, declared.fault.WordFault.{WordFault}}
use Rattle.oc_words.specs.declared.fault.WordFault.TheVariants as fault

-- a word at fault: its index, counted from 0 without the program's name, and what is wrong with it
pub record BadWord : Type 0 where
  pub index : ℕ
  pub code : WordCode

-- the fault of the word at an index
abbrev pub bad : {X : Type 0} → ℕ → WordCode → Result X BadWord
bad index code = Err (record { index = index; code = code })

-- the fault is that of the words; lack of memory needs no cause
abbrev pub IsFaultOf : {X : Type 0} → Result X BadWord → WordFault → Type 0
IsFaultOf asked (fault.Bad index code) = asked ≡ bad index code
IsFaultOf asked fault.NoMemory = Unit {0}

-- the fault is at the word that was to be recorded; lack of memory needs no cause
abbrev pub IsFaultAt : {X : Type 0} → ℕ → Result X WordCode → WordFault → Type 0
IsFaultAt at step (fault.Bad index code) = (index ≡ at) × (step ≡ Err code)
IsFaultAt at step fault.NoMemory = Unit {0}
