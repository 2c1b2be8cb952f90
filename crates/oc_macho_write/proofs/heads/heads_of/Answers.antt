-- Each header is that of the object.
use Rattle.std.proofs.Common.{◌≡◌, ℕ, ◌+◌, ◌++◌, length, sym, ◌∙◌, ap, arith}
use Rattle.std.proofs.lemmas.List.{length-append}
use Rattle.oc_base.specs.declared.format.Word.{Word}
use Rattle.oc_neutral.specs.Objects.{Object}
use Rattle.oc_macho_file.specs.Lines.{inner_lines, defined_lines, undefined_lines, lines_of}
use Rattle.oc_macho_file.proofs.{CodedLaws.{for_mach}, CountLaws.{few_lines}}
use Rattle.oc_macho.specs.declared.structures.Dysymtab.{Dysymtab}
use Rattle.oc_macho_write.proofs.LineLemmas.{as_many_lines}
use Rattle.oc_macho_write.proofs.heads.heads_of.Goals as goal

dysymtab_is : (d : Dysymtab) (inner defined undefined : ℕ) → d.nlocalsym ≡ inner → d.nextdefsym ≡ defined → d.nundefsym ≡ undefined → d ≡ record { nlocalsym = inner; nextdefsym = defined; nundefsym = undefined }
dysymtab_is d inner defined undefined a b c =
    let made : ℕ → ℕ → ℕ → Dysymtab = λ i j k. record { nlocalsym = i; nextdefsym = j; nundefsym = k } in
    ap (λ i. made i d.nextdefsym d.nundefsym) a ∙ ap (λ j. made inner j d.nundefsym) b ∙ ap (λ k. made inner defined k) c

-- all lines are in one of three groups
three_groups : (w : Word) (n : Object) → length (lines_of w n) ≡ length (inner_lines w n) + (length (defined_lines n) + length (undefined_lines n))
unfolding lines_of
three_groups w n =
    let a = length-append (inner_lines w n) (defined_lines n ++ undefined_lines n) in
    let b = length-append (defined_lines n) (undefined_lines n) in
    omega (arith, a, b)

pub dysymtab_of-requires-clause-within : goal.dysymtab_of-requires-clause-within
dysymtab_of-requires-clause-within c =
    let w = c.args.output.now.word in
    let n = c.args.output.now.neutral.now in
    let many = as_many_lines w n c.args.lines.now.all.items c.requires.lines in
    let groups = three_groups w n in
    omega (arith, many, groups, c.requires.inner, c.requires.defined)

pub dysymtab_of-requires-clause-few : goal.dysymtab_of-requires-clause-few
dysymtab_of-requires-clause-few c =
    let w = c.args.output.now.word in
    let n = c.args.output.now.neutral.now in
    let many = as_many_lines w n c.args.lines.now.all.items c.requires.lines in
    let few = few_lines w n (for_mach w n c.requires.made.fitted) in
    omega (arith, many, few)

pub returns : goal.returns
returns c =
    let w = c.args.output.now.word in
    let n = c.args.output.now.neutral.now in
    let same = sym c.section_count-count.ensures in
    let many = as_many_lines w n c.args.lines.now.all.items c.requires.lines in
    let groups = three_groups w n in
    record {
      file = c.file_header.ensures n same;
      cmdsize = c.segment_length.ensures.length n same;
      segment = c.segment_of_file.ensures n same c.requires.made.addresses;
      sections = c.in_ok-section_headers.ensures;
      symtab = c.symtab_command.ensures;
      dysymtab = dysymtab_is c.dysymtab_of.result (length (inner_lines w n)) (length (defined_lines n)) (length (undefined_lines n))
          (c.dysymtab_of.ensures.inner ∙ c.requires.inner)
          (let e = c.dysymtab_of.ensures.defined in omega (arith, e, c.requires.defined))
          (let e = c.dysymtab_of.ensures.undefined in omega (arith, e, c.requires.defined, c.requires.inner, many, groups));
    }
