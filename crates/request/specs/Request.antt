-- 01, "Layouts", the request: its fields, and where its parts lie.
use Rattle.std.specs.Prelude.{ℕ, ◌+◌, ◌-◌, List, length, take}
use Rattle.wire.specs.Bytes.{byte_at, word_at}
use Rattle.wire.specs.Texts.{head_length, info_bytes}
use Rattle.algorithms.specs.Sizes.{enc_length}
use Rattle.request.specs.declared.Request.{Request}

abbrev pub key_id_of : List ℕ → ℕ
key_id_of request = byte_at request 0

abbrev pub kem_of : List ℕ → ℕ
kem_of request = word_at request 1

abbrev pub kdf_of : List ℕ → ℕ
kdf_of request = word_at request 3

abbrev pub aead_of : List ℕ → ℕ
aead_of request = word_at request 5

-- enc is as long as the request's own KEM says, whatever key it names; behind enc comes the ciphertext, up to the end
abbrev pub enc_end : List ℕ → ℕ
enc_end request = head_length + enc_length (kem_of request)

abbrev pub ciphertext_length : List ℕ → ℕ
ciphertext_length request = length request - enc_end request

-- the fields of a request
abbrev pub fields_of : List ℕ → Request
fields_of request =
    record {
      key_id = record { 0 = key_id_of request };
      kem = kem_of request;
      kdf = kdf_of request;
      aead = aead_of request;
      enc_end = enc_end request;
      ciphertext_length = ciphertext_length request;
    }

-- info, of the request's first 7 bytes
abbrev pub info_of : List ℕ → List ℕ
info_of request = info_bytes (take head_length request)
