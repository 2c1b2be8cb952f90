-- Load commands, walked one after another.
use Rattle.std.proofs.Common.{◌≡◌, ℕ, ◌+◌, ◌<◌, ◌≤◌, Bool, true, false, cond, eqb, List, Option, None, Some, refl, sym, ◌∙◌, ap, arith}
use Rattle.std.specs.Prelude.{◌||◌}
use Rattle.oc_base.specs.declared.format.Word.{Word}
use Rattle.oc_shelf.proofs.{ReadingLaws.FirstsLemmas.{any_more, any_true, first_more}, ReadingLaws.StageLemmas.{sum_more}, ReadingLaws.StepLemmas.{step_more}}
use Rattle.oc_macho.specs.{declared.commands.Commands.{Commands}, declared.constants.TheConstants.{LC_SYMTAB}, LoadCommand.{load_command_at}}
use Rattle.oc_macho.specs.{MachHeader.{mach_header_size}, SegmentCommand.{segment_number}, Tables.{command_place, first_command, is_command}}
use Rattle.oc_macho.specs.{HeaderFaults.{any_bad, commands_end, count_upto, is_bad}, Walked.{IsWalking, and_place, no_commands, with_command}}

-- before the first
pub walking_none : (w : Word) (file : List ℕ) → IsWalking w file 0 (mach_header_size w) no_commands
walking_none w file = record {
  are = record { good = refl; segments = refl; segment = refl; symtabs = refl; symtab = refl };
  place = refl;
  inside = omega arith;
  segments_few = omega arith;
  symtabs_few = omega arith;
}

-- the next command is of a kind
kind_is : (w : Word) (file : List ℕ) (n at cmd number : ℕ) → at ≡ command_place w file n → number ≡ (load_command_at file at).cmd → eqb number cmd ≡ is_command w file cmd n
kind_is w file n at cmd number place is = ap (λ (k : ℕ). eqb k cmd) (is ∙ ap (λ (p : ℕ). (load_command_at file p).cmd) place)

-- one more is counted
counted : (w : Word) (file : List ℕ) (n cmd count : ℕ) (b : Bool) → count ≡ count_upto w file cmd n → b ≡ is_command w file cmd n → count + cond b 1 0 ≡ count_upto w file cmd (n + 1)
counted w file n cmd count b is same =
    ap (λ (k : ℕ). k + cond b 1 0) is ∙ ap (λ (c : Bool). count_upto w file cmd n + cond c 1 0) same ∙ sym (sum_more (λ i. cond (is_command w file cmd i) 1 0) n)

-- and the first stands where it did, or here
placed : (w : Word) (file : List ℕ) (n at cmd : ℕ) (before : Option ℕ) (b : Bool) → before ≡ first_command w file cmd n → b ≡ is_command w file cmd n → at ≡ command_place w file n
    → and_place before b at ≡ first_command w file cmd (n + 1)
placed w file n at cmd before b is same place =
    ap (λ (o : Option ℕ). and_place o b at) is ∙ ap (λ (c : Bool). and_place (first_command w file cmd n) c at) same
    ∙ ap (λ (p : ℕ). and_place (first_command w file cmd n) (is_command w file cmd n) p) place
    ∙ sym (first_more (λ i. cond (is_command w file cmd i) (Some (command_place w file i)) None) n)

-- one command more that breaks no rule
pub walking_more : (w : Word) (file : List ℕ) (n at number size : ℕ) (c : Commands) → IsWalking w file n at c → is_bad w file at ≡ false → number ≡ (load_command_at file at).cmd
    → size ≡ (load_command_at file at).cmdsize → at + size ≤ commands_end w file → IsWalking w file (n + 1) (at + size) (with_command w c number at)
walking_more w file n at number size c is good number_is size_is inside = record {
  are = record {
    good = any_more (λ i. is_bad w file (command_place w file i)) n ∙ ap (λ (b : Bool). b || is_bad w file (command_place w file n)) is.are.good ∙ (ap (is_bad w file) (sym is.place) ∙ good);
    segments = counted w file n (segment_number w) c.segments (eqb number (segment_number w)) is.are.segments (kind_is w file n at (segment_number w) number is.place number_is);
    segment = placed w file n at (segment_number w) c.segment (eqb number (segment_number w)) is.are.segment (kind_is w file n at (segment_number w) number is.place number_is) is.place;
    symtabs = counted w file n LC_SYMTAB c.symtabs (eqb number LC_SYMTAB) is.are.symtabs (kind_is w file n at LC_SYMTAB number is.place number_is);
    symtab = placed w file n at LC_SYMTAB c.symtab (eqb number LC_SYMTAB) is.are.symtab (kind_is w file n at LC_SYMTAB number is.place number_is) is.place;
  };
  place = ap (λ (k : ℕ). at + k) size_is ∙ ap (λ (p : ℕ). p + (load_command_at file p).cmdsize) is.place ∙ sym (step_more (λ p. (load_command_at file p).cmdsize) (mach_header_size w) n);
  inside = inside;
  segments_few = few c.segments n (eqb number (segment_number w)) is.segments_few;
  symtabs_few = few c.symtabs n (eqb number LC_SYMTAB) is.symtabs_few;
}
  where
    few : (a n : ℕ) (b : Bool) → a ≤ n → a + cond b 1 0 ≤ n + 1
    few a n true le = omega (arith, le)
    few a n false le = omega (arith, le)

-- where a command breaks a rule, one of all does
pub any_worse : (w : Word) (file : List ℕ) (n total at : ℕ) (c : Commands) → IsWalking w file n at c → n < total → is_bad w file at ≡ true → any_bad w file total ≡ true
any_worse w file n total at c is low bad = any_true (λ i. is_bad w file (command_place w file i)) total n low (ap (is_bad w file) (sym is.place) ∙ bad)
