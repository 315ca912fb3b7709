mod Files
mod Known
