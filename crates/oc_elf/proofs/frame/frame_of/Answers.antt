-- The headers lie in the file.
use Rattle.std.proofs.Common.{List, ◌∙◌, length, ap, subst, sym, arith}
use Rattle.std.proofs.lemmas.List.FromFn.{length-map-range_with_len}
use Rattle.oc_elf.specs.{declared.ehdr.Ehdr.{Ehdr}, declared.shdr.Shdr.{Shdr}, Ehdr.{ehdr_in}, Laid.{HasHeader}, Sections.{shndx_number}}
use Rattle.oc_elf.specs.{Frames.{header_of, header_at, zero_in, shdr_count}, Classes.{word_of}}
use Rattle.oc_elf.proofs.{HeaderLemmas.{has_header, framed_is, frame_lies}, CountLemmas.{size_least}}
use Rattle.oc_elf.proofs.frame.frame_of.Goals as goal

pub ehdr_of-ehdr-requires : goal.ehdr_of-ehdr-requires
ehdr_of-ehdr-requires c =
    rw c.word-word.ensures ((has_header c.args.class (length c.args.file.now) (ehdr_in (word_of c.args.class) c.args.file.now) (zero_in (word_of c.args.class) c.args.file.now) c.requires.clean).there)

pub numbers_of-count-requires-clause-lies : goal.numbers_of-count-requires-clause-lies
numbers_of-count-requires-clause-lies c =
    subst (λ (h : Ehdr). HasHeader c.args.class (length c.args.file.now) h (zero_in (word_of c.args.class) c.args.file.now)) (sym (rw c.word-word.ensures at c.ehdr_of-ehdr.ensures))
    (has_header c.args.class (length c.args.file.now) (ehdr_in (word_of c.args.class) c.args.file.now) (zero_in (word_of c.args.class) c.args.file.now) c.requires.clean)

pub headers_of-requires-clause-lies : goal.headers_of-requires-clause-lies
headers_of-requires-clause-lies c =
    rw (c.ehdr_of-ehdr.ensures, c.numbers_of-count.ensures.count, c.word-word.ensures) (has_header c.args.class (length c.args.file.now) (ehdr_in (word_of c.args.class) c.args.file.now) (zero_in (word_of c.args.class) c.args.file.now) c.requires.clean).lies

pub shndx_among-shndx-requires : goal.shndx_among-shndx-requires
shndx_among-shndx-requires c =
    let same = ap length c.as_slice-2.ensures.value in
    let long = ap length (rw c.word-word.ensures at c.in_ok-headers.ensures) ∙ length-map-range_with_len (header_of (word_of c.args.class) c.args.file.now) 0 c.numbers_of-count.result.0 in
    let counted = c.numbers_of-count.ensures.count in
    let lies = (has_header c.args.class (length c.args.file.now) (ehdr_in (word_of c.args.class) c.args.file.now) (zero_in (word_of c.args.class) c.args.file.now) c.requires.clean).lies in
    let least = size_least (word_of c.args.class) (shdr_count c.args.class c.args.file.now) in
    omega (arith, same, long, counted, lies, least, c.requires.small)

pub invariant_of-result : goal.invariant_of-result
invariant_of-result c =
    let has = has_header c.args.class (length c.args.file.now) (ehdr_in (word_of c.args.class) c.args.file.now) (zero_in (word_of c.args.class) c.args.file.now) c.requires.clean in
    let long = ap length (rw c.word-word.ensures at c.in_ok-headers.ensures) ∙ length-map-range_with_len (header_of (word_of c.args.class) c.args.file.now) 0 c.numbers_of-count.result.0 in
    let start = ap (λ (h : Ehdr). h.e_shoff) (rw c.word-word.ensures at c.ehdr_of-ehdr.ensures) in
    let ends = frame_lies c.args.class c.args.file.now c.in_ok-headers.headers.items (ehdr_in (word_of c.args.class) c.args.file.now).e_shoff (shdr_count c.args.class c.args.file.now) has.lies (long ∙ c.numbers_of-count.ensures.count) in
    let least = size_least (word_of c.args.class) (length c.in_ok-headers.headers.items) in
    record {
      is = framed_is c.args.class c.args.file.now c.in_ok-headers.headers.items c.header_among-names.result c.numbers_of-count.result.0 c.numbers_of-count.result.1 c.numbers_of-count.ensures.count c.numbers_of-count.ensures.names (rw c.word-word.ensures at c.in_ok-headers.ensures) (c.header_among-names.ensures ∙ ap (λ (hs : List Shdr). header_at hs c.numbers_of-count.result.1) c.as_slice.ensures.value);
      start_is = start;
      shndx_is = c.shndx_among-shndx.ensures ∙ ap (λ (hs : List Shdr). shndx_number c.args.class hs) c.as_slice-2.ensures.value;
      few = omega (arith, least, ends, c.requires.small);
      ends = rw start ends;
      small = c.requires.small;
    }

pub returns : goal.returns
returns c =
    framed_is c.args.class c.args.file.now c.in_ok-headers.headers.items c.header_among-names.result c.numbers_of-count.result.0 c.numbers_of-count.result.1 c.numbers_of-count.ensures.count c.numbers_of-count.ensures.names (rw c.word-word.ensures at c.in_ok-headers.ensures) (c.header_among-names.ensures ∙ ap (λ (hs : List Shdr). header_at hs c.numbers_of-count.result.1) c.as_slice.ensures.value)
