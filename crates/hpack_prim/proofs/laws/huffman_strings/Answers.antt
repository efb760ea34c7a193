use Rattle.hpack_prim.proofs.HuffmanLaws.{huff_found, huff_only, eos_found, eos_only, rest_found, rest_only}
use Rattle.hpack_prim.proofs.laws.huffman_strings.Goals as goal

pub returns-clause-string : goal.returns-clause-string
returns-clause-string c = λ bytes symbols. (huff_found bytes symbols, huff_only bytes symbols)

pub returns-clause-eos : goal.returns-clause-eos
returns-clause-eos c = λ bytes at. (eos_found bytes at, eos_only bytes at)

pub returns-clause-padding : goal.returns-clause-padding
returns-clause-padding c = λ bytes at. (rest_found bytes at, rest_only bytes at)
